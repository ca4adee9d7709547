use Rattle.std.proofs.Common.{ℕ, ◌-◌, ◌<◌, ◌≤◌, length, get_or}
use Rattle.sr_arena.specs.declared.moves.Move.{Move}
use Rattle.sr_arena.proofs.moves.first_from.Given as goal

abbrev pub invariant-loop-low : goal.invariant-loop-low
invariant-loop-low l = record {
  order : l.low ≤ l.high;
  within : l.high ≤ length l.moves;
  below : (k : ℕ) (d : Move) → k < l.low → (get_or l.moves k d).from < l.from;
  left : (k : ℕ) (d : Move) → l.high ≤ k → k < length l.moves → l.from ≤ (get_or l.moves k d).from;
}

abbrev pub decreases-loop-low : goal.decreases-loop-low
decreases-loop-low l = l.high - l.low
