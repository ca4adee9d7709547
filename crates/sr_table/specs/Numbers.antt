-- Lists of numbers that are told apart by a table.
use Rattle.std.specs.Prelude.{ℕ, ◌<◌, ◌≤◌, ◌==◌, ◌≡◌, true, cond, sum_by, List, [], ◌∷◌}
use Rattle.sr_model.specs.Assignment.{holds_number}
use Rattle.sr_table.specs.Pages.{Paged, entry}

-- all numbers of the first list are in the second
abbrev pub KeepsHeld : List ℕ → List ℕ → Type 0
KeepsHeld old new = (n : ℕ) → holds_number n old ≡ true → holds_number n new ≡ true

-- a list holds all numbers of another one
abbrev pub HoldsAll : List ℕ → List ℕ → Type 0
HoldsAll ns [] = Unit {0}
HoldsAll ns (m ∷ ms) = (holds_number m ns ≡ true) × HoldsAll ns ms

-- how often a number comes in a list
abbrev pub times_in : ℕ → List ℕ → ℕ
times_in n ns = sum_by (λ m. cond (m == n) 1 0) ns

-- no number comes twice
abbrev pub AreDistinct : List ℕ → Type 0
AreDistinct ns = (n : ℕ) → times_in n ns ≤ 1

-- the numbers that have this round in the table are there, and no others
pub record AreNoted (ns : List ℕ) (rounds : Paged) (round : ℕ) : Type 0 where
  pub begun : 0 < round
  pub past : (n : ℕ) → entry rounds n ≤ round
  pub there : (n : ℕ) → entry rounds n ≡ round → holds_number n ns ≡ true
  pub noted : (n : ℕ) → holds_number n ns ≡ true → entry rounds n ≡ round
  pub once : AreDistinct ns
