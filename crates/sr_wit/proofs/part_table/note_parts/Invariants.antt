use Rattle.std.proofs.Common.{take, ◌≡◌, ◌≢◌, ◌≤◌, ◌<◌, ℕ, length, get_or}
use Rattle.std.specs.List.{All}
use Rattle.sr_wit.specs.Tables.{slot_of}
use Rattle.sr_wit.proofs.part_table.note_parts.Given as goal

abbrev pub invariant-loop-i : goal.invariant-loop-i
invariant-loop-i l = record {
  known : (j : ℕ) → get_or l.slots.items j 0 ≤ length l.parts;
  free : (v : ℕ) → slot_of v l.shift < length l.slots.items → get_or l.slots.items (slot_of v l.shift) 0 ≡ 0 → All (λ p. p.0 ≢ v) (take l.i l.parts);
}
