use Rattle.std.proofs.Common.{◌≡◌, ◌+◌, ◌∙◌, ap, drop}
use Rattle.sr_arena.specs.Cells.{Memory, reference, first_held, held_after}
use Rattle.sr_arena.proofs.Standing.{held_or_none, rises_or_none}
use Rattle.sr_arena.proofs.memory.ClauseMem.next.Goals as goal

pub returns-clause-held : goal.returns-clause-held
returns-clause-held c =
    let e : c.next-next.result ≡ held_after c.args.self.now (reference c.args.after) =
    c.next-next.ensures.value ∙ ap (λ k. first_held (k + 1) (drop (k + 1) c.self.inside.regions.cells)) c.index_of.ensures ∙ ap (λ (m : Memory). held_after m (reference c.args.after)) c.self.view_is in
    held_or_none c.args.self.now (reference c.args.after) c.next-next.result c.from_index.result c.from_index.ensures.value e c.from_index.ensures.none.1

pub returns-clause-rises : goal.returns-clause-rises
returns-clause-rises c =
    let e : c.next-next.result ≡ held_after c.args.self.now (reference c.args.after) =
    c.next-next.ensures.value ∙ ap (λ k. first_held (k + 1) (drop (k + 1) c.self.inside.regions.cells)) c.index_of.ensures ∙ ap (λ (m : Memory). held_after m (reference c.args.after)) c.self.view_is in
    rises_or_none c.args.self.now (reference c.args.after) c.next-next.result c.from_index.result c.from_index.ensures.value e c.from_index.ensures.none.1
