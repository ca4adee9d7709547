use Rattle.sr_watch.proofs.Purges.{ArePurged}
use Rattle.sr_watch.proofs.purging.purge.Given as goal

abbrev pub invariant-loop-key : goal.invariant-loop-key
invariant-loop-key l = ArePurged l.core l.memory l.fn.lists l.lists l.key
