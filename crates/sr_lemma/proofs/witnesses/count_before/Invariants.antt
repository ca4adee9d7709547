use Rattle.std.proofs.Common.{◌≡◌, ◌+◌, drop, length}
use Rattle.sr_model.specs.Witnesses.{before}
use Rattle.sr_lemma.proofs.witnesses.count_before.Given as goal

abbrev pub invariant-loop-i : goal.invariant-loop-i
invariant-loop-i l = length (before l.pivot l.lits) ≡ l.i + length (before l.pivot (drop l.i l.lits))
