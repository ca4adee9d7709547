-- Tables of variables and their places.
use Rattle.std.specs.Prelude.{ℕ, ◌≡◌, ◌<◌, ◌≤◌, ◌+◌, List, length, slice_index_or}
use Rattle.sr_base.specs.declared.literal.TheConstants.{MOST_VARS}

-- each number is below one
abbrev pub AreBelow : ℕ → List ℕ → Type 0
AreBelow n xs = (i : ℕ) → slice_index_or xs i 0 < n

-- variables and places below the size, in tables of that size; so many variables are in the heap
pub record IsHeap (vars places : List ℕ) (size count : ℕ) : Type 0 where
  pub vars_size : length vars ≡ size
  pub places_size : length places ≡ size
  pub vars_below : AreBelow size vars
  pub places_below : AreBelow size places
  pub most : size ≤ MOST_VARS + 1
  pub fits : count ≤ size
