-- What contracts see of a clause memory: cells of clauses under references, which are numbers from 1 on.
use Rattle.std.specs.Prelude.{ℕ, ◌+◌, ◌<◌, ◌≡◌, ◌≢◌, Bool, true, false, cond, List, [], ◌∷◌, ◌++◌, length, drop, filter, slice_index_or, slice_set, Option, Some, None}
use Rattle.sr_base.specs.Literal.{Literal}

-- a clause that is held: its literals in order, the caller's number of it, its mark and its flag
pub record Cell : Type 0 where
  pub held : Bool
  pub lits : List Literal
  pub number : ℕ
  pub marked : Bool
  pub flagged : Bool

-- no clause
abbrev pub gone : Cell
gone = record { held = false; lits = []; number = 0; marked = false; flagged = false }

-- a held clause
abbrev pub held_cell : List Literal → ℕ → Bool → Bool → Cell
held_cell ls n m f = record { held = true; lits = ls; number = n; marked = m; flagged = f }

-- a clause that was just added
abbrev pub fresh : List Literal → ℕ → Cell
fresh ls n = held_cell ls n false false

-- a memory: its clauses by reference, the cells of 32 bits that it uses, the most that may be held, and the words for which
-- there is room without growing: a clause takes its literals and two more
pub record Memory : Type 0 where
  pub cells : List Cell
  pub used : ℕ
  pub most : ℕ
  pub room : ℕ

-- what stands under a reference
abbrev pub cell_at : Memory → ℕ → Cell
cell_at m at = slice_index_or m.cells at gone

-- a reference names a held clause
abbrev pub IsHeld : Memory → ℕ → Type 0
IsHeld m at = (cell_at m at).held ≡ true

-- another cell stands under a reference, and all else stays
abbrev pub put : Memory → ℕ → Cell → Memory
put m at c = record m { cells = slice_set m.cells at c }

-- the cells of 32 bits that a clause counts: its literals and four more
abbrev pub weight : Cell → ℕ
weight c = cond c.held (length c.lits + 4) 0

abbrev pub weights : List Cell → ℕ
weights [] = 0
weights (c ∷ cs) = weight c + weights cs

-- the cells of 32 bits of all held clauses
abbrev pub held_cells : Memory → ℕ
held_cells m = weights m.cells

-- the held clauses in the order of their references
abbrev pub held_in : List Cell → List Cell
held_in cs = filter (λ c. c.held) cs

-- the number of a reference, and 0 where there is none
abbrev pub reference : Option ℕ → ℕ
reference None = 0
reference (Some n) = n

-- the reference of the first held clause of cells that begin at a reference; 0 where none is held
abbrev pub first_held : ℕ → List Cell → ℕ
first_held at [] = 0
first_held at (c ∷ cs) = cond c.held at (first_held (at + 1) cs)

-- the reference of the first held clause after another one
abbrev pub held_after : Memory → ℕ → ℕ
held_after m at = first_held (at + 1) (drop (at + 1) m.cells)

-- a reference that names a held clause, or none
abbrev pub IsHeldOrNone : Memory → Option ℕ → Type 0
IsHeldOrNone m None = Unit {0}
IsHeldOrNone m (Some at) = IsHeld m at

-- the new memory is the old one with a clause under a reference that named none
pub record IsAdded (old new : Memory) (at : ℕ) (c : Cell) : Type 0 where
  pub none : cell_at old at ≡ gone
  pub here : cell_at new at ≡ c
  pub others : (k : ℕ) → k ≢ at → cell_at new k ≡ cell_at old k
  -- it comes after all others
  pub order : held_in new.cells ≡ held_in old.cells ++ c ∷ []
  pub last : (k : ℕ) → IsHeld old k → k < at
  pub used : new.used ≡ old.used + weight c
  pub most : new.most ≡ old.most
