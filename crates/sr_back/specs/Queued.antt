-- Numbers in a queue.
use Rattle.std.specs.Prelude.{ℕ, ◌==◌, ◌||◌, ◌<◌, ◌-◌, ◌≡◌, true, List, map}
use Rattle.sr_model.specs.Assignment.{holds_number}

-- a number is put to the others
abbrev pub Puts : List ℕ → List ℕ → ℕ → Type 0
Puts old new n = (m : ℕ) → holds_number m new ≡ ((n == m) || holds_number m old)

-- all are above a number
abbrev pub AreAbove : ℕ → List ℕ → Type 0
AreAbove n ms = (m : ℕ) → holds_number m ms ≡ true → n < m

-- the numbers that lie so far below the greatest one
abbrev pub from_top : List ℕ → List ℕ
from_top ks = map (λ k. 4294967295 - k) ks
