-- How one clause more is held, under the next number.
use Rattle.std.specs.Prelude.{Bool, false, take, ℕ, ◌+◌, ◌<◌, ◌≡◌, ◌≢◌, ◌==◌, List, [], ◌∷◌, ◌++◌, length, slice_index_or}
use Rattle.sr_base.specs.Literal.{Literal}
use Rattle.sr_watch.specs.State.{State, slot_in, no_clause, held_cells}
use Rattle.sr_watch.specs.Changes.{IsReordered}
use Rattle.sr_load.specs.Loaded.{LoadedState}
use Rattle.sr_load.specs.Copies.{copy_of}
use Rattle.sr_load.specs.Numbers.{flag_of}
use Rattle.sr_load.specs.Tied.{IsTied, AreAssumed}
use Rattle.sr_model.specs.Dimacs.{Formula}
use Rattle.sr_model.specs.Judging.{numbered_from, cells_of}
use Rattle.sr_trimming.specs.Loading.{Done}

-- a clause is held and attached to the rest, and entries may have other reasons
pub record HoldsMore (old new : State) (refs refs' : List ℕ) (ls : List Literal) : Type 0 where
  pub at : ℕ
  pub some : 0 < at
  pub none : slot_in old.slots at ≡ no_clause
  pub here : IsReordered (copy_of ls (length refs + 1)) (slot_in new.slots at)
  pub others : (r : ℕ) → r ≢ at → IsReordered (slot_in old.slots r) (slot_in new.slots r)
  pub refs_are : refs' ≡ refs ++ at ∷ []
  pub lits : new.lits ≡ old.lits
  pub size : length new.reasons ≡ length old.reasons
  pub derived : (i : ℕ) → (slice_index_or old.reasons i 0 == 0) ≡ (slice_index_or new.reasons i 0 == 0)
  pub cells : held_cells new ≡ held_cells old + (length ls + 4)

-- lines are still loaded
pub record IsLoading (st : LoadedState) : Type 0 where
  pub none_undone : st.undone ≡ []
  pub none_cited : st.cited ≡ []
  pub none_assumed : st.assumed ≡ []

-- one line more stands
abbrev pub with_line : LoadedState → Done → LoadedState
with_line st d = record st { standing = st.standing ++ d ∷ [] }

abbrev pub before_lines : Formula → LoadedState
before_lines f = record { formula = f; standing = []; undone = []; cited = []; assumed = [] }

-- no clause is held, and there is no entry
pub record IsBare (s : State) : Type 0 where
  pub slots : s.slots ≡ no_clause ∷ []
  pub lits : s.lits ≡ []
  pub reasons : s.reasons ≡ []

-- the first clauses are held under their numbers
pub record HoldsFirst (s : State) (refs : List ℕ) (flags : List Bool) (cs : List (List Literal)) (i : ℕ) : Type 0 where
  pub tied : IsTied (numbered_from 1 (take i cs)) (numbered_from 1 (take i cs)) [] s.slots refs
  pub entries : AreAssumed s.lits s.reasons [] []
  pub cells : held_cells s ≡ cells_of (take i cs)
  pub size : length refs ≡ i
  pub flags_size : length flags ≡ i
  pub unflagged : (n : ℕ) → flag_of flags n ≡ false
