use Rattle.std.proofs.Common.{◌/◌, ◌<◌, ap, sym, ◌∙◌, arith, length}
use Rattle.std.proofs.lemmas.List.{get_or_default}
use Rattle.sr_lists.specs.Stacks.{Stacked}
use Rattle.sr_lists.specs.declared.stacks.TheConstants.{PLACES}
use Rattle.sr_lists.proofs.Calls.{older_of}
use Rattle.sr_lists.proofs.stacks.Stacks.older.Goals as goal

pub returns-then-place-gt0 : goal.returns-then-place-gt0
returns-then-place-gt0 c = λ key front rest e.
    let x = older_of c.self.inside.newest.items c.self.inside.below.items c.self.inside.cells.items c.self.inside.free c.self.inside.room _ _ c.self.invariant c.args.self.now c.self.view_is key c.args.place front rest e in
    sym (x.within c.if-place-gt0.true)

pub returns-else-place-gt0 : goal.returns-else-place-gt0
returns-else-place-gt0 c = λ key front rest e.
    let x = older_of c.self.inside.newest.items c.self.inside.below.items c.self.inside.cells.items c.self.inside.free c.self.inside.room _ _ c.self.invariant c.args.self.now c.self.view_is key c.args.place front rest e in
    let lt : c.args.place / PLACES < length c.self.inside.below.items = omega (arith, c.requires.place, ap (λ (s : Stacked). length s.cells) c.self.view_is, c.self.invariant.size) in
    c.index.ensures ∙ get_or_default c.self.inside.below.items (c.args.place / PLACES) c.index.result.now 0 lt ∙ sym (x.first (omega (arith, c.if-place-gt0.false)))
