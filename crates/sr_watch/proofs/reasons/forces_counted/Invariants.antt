use Rattle.std.proofs.Common.{take}
use Rattle.sr_watch.proofs.Derivations.{ForcesFirst}
use Rattle.sr_watch.proofs.reasons.forces_counted.Given as goal

abbrev pub invariant-loop-k : goal.invariant-loop-k
invariant-loop-k g l = ForcesFirst (take l.count l.trail.lits) l.clause l.l l.k-index l.found
