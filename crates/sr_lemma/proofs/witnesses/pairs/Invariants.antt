use Rattle.std.proofs.Common.{◌≡◌, ◌++◌, ◌≤◌, ◌-◌, drop, length}
use Rattle.sr_model.specs.Witnesses.{pairs}
use Rattle.sr_lemma.proofs.witnesses.pairs.Given as goal

abbrev pub invariant-loop-i : goal.invariant-loop-i
invariant-loop-i l = (l.i ≤ length l.lits) × (l.maps.items ++ pairs (drop l.i l.lits) ≡ pairs l.lits)

abbrev pub decreases-loop-i : goal.decreases-loop-i
decreases-loop-i l = length l.initial.lits - l.i
