use Rattle.std.proofs.Common.{length}
use Rattle.sr_watch.proofs.Purges.{IsPurging}
use Rattle.sr_watch.proofs.purging.purge_list.Given as goal

abbrev pub invariant-loop-watch : goal.invariant-loop-watch
invariant-loop-watch l = IsPurging l.core l.memory l.fn.lists l.lists l.key

abbrev pub decreases-loop-watch : goal.decreases-loop-watch
decreases-loop-watch l = length l.lists.ahead
