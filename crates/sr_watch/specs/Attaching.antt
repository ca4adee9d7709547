-- Watches of a clause that is attached.
use Rattle.std.specs.Prelude.{ℕ, ◌+◌, ◌<◌, ◌≤◌, ◌≡◌, ◌≢◌, ◌==◌, Bool, true, false, cond, List, [], length, take, slice_index_or}
use Rattle.sr_base.specs.Literal.{Literal, plus, complement, has}
use Rattle.sr_arena.specs.Cells.{Memory, cell_at, IsHeld, held_cells}
use Rattle.sr_model.specs.Assignment.{holds_number}
use Rattle.sr_watch.specs.declared.watches.Watches.{Watches}
use Rattle.sr_watch.specs.Rising.{AreRising}
use Rattle.sr_watch.specs.Trail.{Entries, place_in}
use Rattle.sr_lists.specs.Family.{Family, AreSame}
use Rattle.sr_watch.specs.declared.watches.TheConstants.{UNSEEN, SEEN}
use Rattle.sr_watch.specs.Watching.{is_watch, is_short, is_of, is_stray, on_side, IsGuarded, IsStuck, times, listed, tally}
use Rattle.sr_watch.specs.Walking.{IsTurnedCell, HasSameShape}
use Rattle.sr_watch.specs.Resting.{is_pending, IsResting}

-- one more than the place where a literal becomes false, above all places where it never does
abbrev pub fall_of : List Literal → Literal → ℕ
fall_of trail l = cond (place_in trail (complement l) == 0) (length trail + 1) (place_in trail (complement l))

-- one clause is in another order
pub record IsArranged (at : ℕ) (m n : Memory) : Type 0 where
  pub each : (r : ℕ) → IsTurnedCell (cell_at m r) (cell_at n r)
  pub others : (r : ℕ) → r ≢ at → cell_at n r ≡ cell_at m r
  pub most : n.most ≡ m.most
  pub used : n.used ≡ m.used
  pub cells : held_cells n ≡ held_cells m

-- of the literals from a place on, the one there becomes false last
abbrev pub FallsLast : List Literal → List Literal → ℕ → Type 0
FallsLast trail c place = (j : ℕ) → place ≤ j → j < length c → fall_of trail (slice_index_or c j (plus 0)) ≤ fall_of trail (slice_index_or c place (plus 0))

-- the watches become false last, the first one after the second
pub record IsChosen (trail c : List Literal) : Type 0 where
  pub first : FallsLast trail c 0
  pub second : FallsLast trail c 1

-- a clause is listed under its watches, or as unseen where it has none
pub record IsEnlisted (old new : Family) (c : List Literal) (at : ℕ) : Type 0 where
  pub shape : HasSameShape old new
  pub ahead : AreSame new.ahead old.ahead
  pub literals : (r : ℕ) (k : Literal) → listed new r k ≡ listed old r k + cond (at == r) (cond (is_watch c k) 1 0) 0
  pub unseen : (r : ℕ) → times new r UNSEEN ≡ times old r UNSEEN + cond (at == r) (cond (is_short c) 1 0) 0
  pub seen : (r : ℕ) → times new r SEEN ≡ times old r SEEN
  pub few : (r : ℕ) → tally new [] (is_of r) ≤ tally old [] (is_of r) + cond (at == r) 2 0
  pub blockers : (m : Memory) → (cell_at m at).lits ≡ c → tally new [] (is_stray m) ≡ tally old [] (is_stray m)

-- no watch of a clause is among these falsifiers
abbrev pub AreOpenWatches : List Literal → List Literal → Type 0
AreOpenWatches c falsifiers = (k : Literal) → is_watch c k ≡ true → has (complement k) falsifiers ≡ false

-- a watch of the clause is false
pub record IsWatchFalse (trail c : List Literal) : Type 0 where
  pub watch : Literal
  pub watched : is_watch c watch ≡ true
  pub is_false : has (complement watch) trail ≡ true

-- the clause is attached to a side now
pub record IsPutOn (core : Bool) (m n : Memory) (at : ℕ) : Type 0 where
  pub held : IsHeld n at
  pub on : on_side core n at ≡ true
  pub lits : (cell_at n at).lits ≡ (cell_at m at).lits
  pub others : (r : ℕ) → r ≢ at → cell_at n r ≡ cell_at m r

-- kept lengths, `done` and the pending clause as another attached clause leaves them
pub record IsNoted (m : Memory) (trail c : List Literal) (at : ℕ) (old new : Watches) : Type 0 where
  pub lists : new.lists ≡ old.lists
  pub shade : new.shade ≡ old.shade
  pub top : new.top ≡ old.top
  pub less : new.done ≤ old.done
  pub rising : AreRising 0 new.kept.items
  pub fewer : (n : ℕ) → holds_number n new.kept.items ≡ true → (holds_number n old.kept.items ≡ true) × IsGuarded (take n trail) (take n trail) c
  pub others : (r : ℕ) → r ≢ at → is_pending new.pending r ≡ false → is_pending old.pending r ≡ true → AreOpenWatches (cell_at m r).lits (take new.done trail)
  pub still : (r : ℕ) → r ≢ at → is_pending new.pending r ≡ true → is_pending old.pending r ≡ true
  pub guarded : is_pending new.pending at ≡ false → IsGuarded (take new.done trail) trail c
  pub stuck : is_pending new.pending at ≡ true → IsStuck trail c

-- what holds between calls, for the core or for the rest, and the clause isn't attached there
pub record IsRestingWithout (m : Memory) (e : Entries) (w : Watches) (at : ℕ) : Type 0 where
  pub core : Bool
  pub resting : IsResting core m e w
  pub off : on_side core m at ≡ false
