use Rattle.std.proofs.Common.{◌≡◌, ℕ, true, length}
use Rattle.sr_model.specs.Assignment.{holds_number}
use Rattle.sr_watch.specs.Rising.{AreRising}
use Rattle.sr_watch.proofs.watches.fall_to.Given as goal

abbrev pub invariant-loop-kept : goal.invariant-loop-kept
invariant-loop-kept l = record {
  rising : AreRising 0 l.kept.items;
  fewer : (n : ℕ) → holds_number n l.kept.items ≡ true → holds_number n l.fn.kept.items ≡ true;
}

abbrev pub decreases-loop-kept : goal.decreases-loop-kept
decreases-loop-kept l = length l.kept.items
