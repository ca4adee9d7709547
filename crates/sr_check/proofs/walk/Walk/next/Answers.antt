use Rattle.std.proofs.Common.{◌∙◌, ◌∷◌, sym, ap}
use Rattle.sr_arena.specs.Cells.{reference, cell_at}
use Rattle.sr_check.proofs.Relinking.{left_next, left_after, left_from}
use Rattle.sr_check.proofs.walk.Walk.next.Goals as goal

pub returns-in_default-clause-end : goal.returns-in_default-clause-end
returns-in_default-clause-end c =
    sym c.self.view_is ∙ sym (left_next c.self.inside.mem.now (reference c.self.inside.last) c.next.result c.self.invariant.1 c.next.ensures.value c.next.ensures.rises) ∙ ap (left_from c.self.inside.mem.now) c.in_default.is

pub returns-clause-next : goal.returns-clause-next
returns-clause-next c =
    sym c.self.view_is ∙ sym (left_next c.self.inside.mem.now (reference c.self.inside.last) c.next.result c.self.invariant.1 c.next.ensures.value c.next.ensures.rises) ∙ ap (left_from c.self.inside.mem.now) c.in-Some.is
    ∙ ap (λ n. (n, (cell_at c.self.inside.mem.now c.in-Some.at).lits) ∷ left_after c.self.inside.mem.now c.in-Some.at) (sym c.number.ensures) ∙ ap (λ ls. (c.number.result, ls) ∷ left_after c.self.inside.mem.now c.in-Some.at) (sym c.lits_at.ensures)
