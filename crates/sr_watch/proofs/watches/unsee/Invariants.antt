use Rattle.std.proofs.Common.{length}
use Rattle.sr_watch.proofs.Falls.{IsUnseeing}
use Rattle.sr_watch.proofs.watches.unsee.Given as goal

abbrev pub invariant-loop-watch : goal.invariant-loop-watch
invariant-loop-watch l = IsUnseeing l.fn.lists l.lists

abbrev pub decreases-loop-watch : goal.decreases-loop-watch
decreases-loop-watch l = length l.lists.ahead
