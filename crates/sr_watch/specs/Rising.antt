-- Lists of numbers that rise.
use Rattle.std.specs.Prelude.{ℕ, ◌<◌, List, [], ◌∷◌}

-- each number is above the one before
abbrev pub AreRising : ℕ → List ℕ → Type 0
AreRising low [] = Unit {0}
AreRising low (n ∷ ns) = (low < n) × AreRising n ns

-- the last number of a list, or the one before it
abbrev pub last_above : ℕ → List ℕ → ℕ
last_above low [] = low
last_above low (n ∷ ns) = last_above n ns
