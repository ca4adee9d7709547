use Rattle.sr_watch.specs.Purging.{AreCleared}
use Rattle.sr_watch.proofs.Purges.{AreFirstCleared}
use Rattle.sr_watch.proofs.purging.clear.Given as goal

abbrev pub invariant-loop-i : goal.invariant-loop-i
invariant-loop-i l = record {
  cleared : AreCleared l.fn.memory l.memory;
  first : AreFirstCleared l.memory l.known l.i;
}
