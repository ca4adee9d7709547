-- Marks on literals, by code: which literals the clauses of a chain stand on.
use Rattle.std.specs.Prelude.{ℕ, ◌≡◌, ◌≤◌, Bool, true, false, List, length, slice_index_or}
use Rattle.sr_base.specs.Literal.{Literal, complement, literal_code}
use Rattle.sr_arena.specs.Cells.{Memory}
use Rattle.sr_watch.specs.State.{State}
use Rattle.sr_watch.specs.Inside.{state_of}
use Rattle.sr_watch.specs.Trail.{Entries, table_size}
use Rattle.sr_watch.specs.Lean.{stands_in}

abbrev pub marked : List Bool → Literal → Bool
marked t l = slice_index_or t (literal_code l) false

-- no literal is marked
abbrev pub AreClear : List Bool → Type 0
AreClear t = (l : Literal) → marked t l ≡ false

-- the literals are marked whose complements stand in the clauses
abbrev pub AreMarked : State → List ℕ → List Bool → Type 0
AreMarked s hs t = (l : Literal) → marked t l ≡ stands_in s (complement l) hs

-- no other literals are marked
abbrev pub AreMarkedAtMost : State → List ℕ → List Bool → Type 0
AreMarkedAtMost s hs t = (l : Literal) → marked t l ≡ true → stands_in s (complement l) hs ≡ true

-- the state of entries and clauses
abbrev pub joined : Entries → Memory → State
joined e m = state_of e.vars m e.lits e.reasons

-- a table for so many variables, in which nothing is marked
pub record AreReady (t : List Bool) (vars : ℕ) : Type 0 where
  pub room : table_size vars ≤ length t
  pub clear : AreClear t
