use Rattle.std.proofs.Common.{◌≡◌, ◌≤◌, ℕ, drop, length}
use Rattle.std.specs.Ordering.{nat_cmp}
use Rattle.std.specs.BTreeMap as tree
use Rattle.sr_model.specs.Witnesses.{twice_of}
use Rattle.sr_wit.proofs.PartLemmas.{summary}
use Rattle.sr_wit.proofs.parts.first_twice.Given as goal

-- the later parts are those from the place on
abbrev pub invariant-loop-i : goal.invariant-loop-i
invariant-loop-i l = record {
  within : l.i ≤ length l.parts;
  found : l.found ≡ twice_of (drop l.i l.parts);
  later : (v : ℕ) → tree.get nat_cmp l.later v ≡ summary (drop l.i l.parts) v;
}

abbrev pub decreases-loop-i : goal.decreases-loop-i
decreases-loop-i l = l.i
