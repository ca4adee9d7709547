use Rattle.std.proofs.Common.{◌≡◌, List, replicate, subst, sym}
use Rattle.sr_lists.specs.declared.blocks.Watch.{Watch}
use Rattle.sr_lists.specs.Stacks.{held_at}
use Rattle.sr_lists.specs.declared.stacks.TheConstants.{PLACES}
use Rattle.sr_lists.proofs.Holding.{held_append}
use Rattle.sr_lists.proofs.stacks.push_block.Goals as goal

pub returns-clause-held : goal.returns-clause-held
returns-clause-held c = λ q lt.
    subst (λ (ws : List Watch). held_at ws q ≡ held_at c.args.cells.now.items q) (sym c.fill.ensures.items) (held_append c.args.cells.now.items (replicate PLACES c.nothing.result) q lt)
