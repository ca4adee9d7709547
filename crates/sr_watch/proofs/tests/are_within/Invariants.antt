use Rattle.std.proofs.Common.{take}
use Rattle.sr_watch.specs.State.{AreWithin}
use Rattle.sr_watch.proofs.tests.are_within.Given as goal

abbrev pub invariant-loop-l : goal.invariant-loop-l
invariant-loop-l l = AreWithin l.vars (take l.l-index l.lits)
