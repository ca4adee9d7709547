use Rattle.std.proofs.Common.{ℕ, ◌≤◌, ◌<◌, ◌-◌, get_or}
use Rattle.sr_scan.proofs.value.last_byte.Given as goal

-- the bytes so far all say that another follows
abbrev pub invariant-loop-at : goal.invariant-loop-at
invariant-loop-at l = (k : ℕ) → k < l.at → 128 ≤ get_or l.bytes k 0

abbrev pub decreases-loop-at : goal.decreases-loop-at
decreases-loop-at l = 9 - l.at
