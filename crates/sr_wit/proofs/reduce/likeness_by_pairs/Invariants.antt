use Rattle.std.proofs.Common.{◌≡◌, false, take}
use Rattle.sr_base.specs.Literal.{NoRepeats}
use Rattle.sr_model.specs.Substitution.{has_pair}
use Rattle.sr_wit.proofs.reduce.likeness_by_pairs.Given as goal

abbrev pub invariant-loop-i : goal.invariant-loop-i
invariant-loop-i l = record {
  apart : has_pair (take l.i l.lits) ≡ false;
  distinct : l.repeated ≡ false → NoRepeats (take l.i l.lits);
}
