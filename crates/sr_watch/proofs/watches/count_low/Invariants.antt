use Rattle.std.proofs.Common.{◌≤◌, length}
use Rattle.sr_watch.proofs.watches.count_low.Given as goal

abbrev pub invariant-loop-count : goal.invariant-loop-count
invariant-loop-count l = l.count ≤ length l.kept.items

abbrev pub decreases-loop-count : goal.decreases-loop-count
decreases-loop-count l = l.count
