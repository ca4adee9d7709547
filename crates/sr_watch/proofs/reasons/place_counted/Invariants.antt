use Rattle.std.proofs.Common.{take}
use Rattle.sr_watch.proofs.Derivations.{IsNotOf}
use Rattle.sr_watch.proofs.reasons.place_counted.Given as goal

abbrev pub invariant-loop-l : goal.invariant-loop-l
invariant-loop-l g l = IsNotOf l.trail l.fn.at (take l.l-index l.clause)
