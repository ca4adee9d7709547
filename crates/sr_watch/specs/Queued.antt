-- Places of which the greatest comes next.
use Rattle.std.specs.Prelude.{ℕ, ◌≡◌, ◌<◌, ◌≤◌, ◌==◌, ◌||◌, true, List}
use Rattle.sr_model.specs.Assignment.{holds_number}

-- one place more
abbrev pub IsPut : List ℕ → List ℕ → ℕ → Type 0
IsPut old new n = (i : ℕ) → holds_number i new ≡ ((n == i) || holds_number i old)

-- none of the places is below `end`
abbrev pub NoneBelow : ℕ → List ℕ → Type 0
NoneBelow end ps = (i : ℕ) → holds_number i ps ≡ true → end ≤ i

-- the greatest of the places below `end` is taken out, and those below it stay
pub record IsLastBelow (end : ℕ) (old new : List ℕ) (n : ℕ) : Type 0 where
  pub below : n < end
  pub held : holds_number n old ≡ true
  pub greatest : (i : ℕ) → i < end → holds_number i old ≡ true → i ≤ n
  pub stays : (i : ℕ) → i < n → holds_number i new ≡ holds_number i old
