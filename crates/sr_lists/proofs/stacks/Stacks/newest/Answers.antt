use Rattle.std.proofs.Common.{ap, ◌∙◌, arith}
use Rattle.std.proofs.lemmas.List.{get_or_default}
use Rattle.sr_lists.specs.Stacks.{Stacked, stack_at, first_of}
use Rattle.sr_lists.proofs.Calls.{newest_is, keys_are}
use Rattle.sr_lists.proofs.stacks.Stacks.newest.Goals as goal

pub index-requires : goal.index-requires
index-requires c = omega (arith, c.requires, keys_are c.self.inside.newest.items c.self.inside.below.items c.self.inside.cells.items c.self.inside.room c.args.self.now c.self.view_is, c.self.inside.newest.ok.0)

pub returns : goal.returns
returns c =
    let lt = keys_are c.self.inside.newest.items c.self.inside.below.items c.self.inside.cells.items c.self.inside.room c.args.self.now c.self.view_is in
    c.index.ensures ∙ get_or_default c.self.inside.newest.items c.args.key c.index.result.now 0 (omega (arith, c.requires, lt))
    ∙ newest_is c.self.inside.newest.items c.self.inside.below.items c.self.inside.cells.items c.self.inside.free c.self.inside.room _ _ c.self.invariant c.args.key
    ∙ ap (λ (s : Stacked). first_of (stack_at s c.args.key)) c.self.view_is
