use Rattle.std.proofs.Common.{◌≤◌, ◌-◌, ◌∙◌, arith, length}
use Rattle.std.proofs.lemmas.List.{get_or_default}
use Rattle.sr_watch.proofs.Rises.{last_taken}
use Rattle.sr_watch.proofs.watches.count_low.Goals as goal

pub returns-then-index-low-clause-below : goal.returns-then-index-low-clause-below
returns-then-index-low-clause-below c =
    let n : c.loop-count.count ≤ length c.args.kept.now.items = c.loop-count.invariant in
    omega (arith, c.if-index-low.true, c.index.ensures ∙ get_or_default c.args.kept.now.items (c.loop-count.count - 1) c.index.result.now 0 (omega (arith, n, c.loop-count-test.true)), last_taken 0 c.loop-count.count c.args.kept.now.items (omega (arith, c.loop-count-test.true)) n)
