use Rattle.std.proofs.Common.{◌≡◌, ◌+◌, ◌<◌, ◌%◌, ℕ, false, get_or}
use Rattle.sr_wit.proofs.reduce.likeness_by_codes.Given as goal

abbrev pub invariant-loop-i : goal.invariant-loop-i
invariant-loop-i l = record {
  apart : (k : ℕ) → k + 1 < l.i → get_or l.codes k 0 % 2 ≡ 0 → get_or l.codes (k + 1) 0 ≡ get_or l.codes k 0 + 1 → ⊥;
  rising : l.repeated ≡ false → (k : ℕ) → k + 1 < l.i → get_or l.codes k 0 < get_or l.codes (k + 1) 0;
}
