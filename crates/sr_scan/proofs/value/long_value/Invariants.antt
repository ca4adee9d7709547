use Rattle.std.proofs.Common.{◌≤◌, ◌<◌, ◌-◌, ◌+◌, ◌^◌, take, drop, ℕ, List, ◌≡◌, ◌++◌}
use Rattle.sr_scan.specs.Binary.{value, value_at}
use Rattle.sr_scan.proofs.value.long_value.Given as goal

-- the bytes from here to the last spell the value
abbrev pub invariant-loop-at : goal.invariant-loop-at
invariant-loop-at l = record {
  within : l.at ≤ l.last;
  small : l.value < 2 ^ 63;
  spells : (room : ℕ) (rest : List ℕ) → l.last + 1 - l.at ≤ room → value_at (10 - l.at) room (take (l.last + 1 - l.at) (drop l.at l.bytes) ++ rest) ≡ value l.value rest;
}

abbrev pub decreases-loop-at : goal.decreases-loop-at
decreases-loop-at l = l.at
