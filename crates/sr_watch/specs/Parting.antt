-- Clauses that are attached and detached.
use Rattle.std.specs.Prelude.{ℕ, ◌+◌, ◌≤◌, ◌≡◌, ◌≢◌, Bool, true, false, Option, Some, None, List, length}
use Rattle.sr_base.specs.Literal.{SameSet}
use Rattle.sr_arena.specs.Cells.{Memory, cell_at, held_cells}
use Rattle.sr_watch.specs.declared.watches.Watches.{Watches}
use Rattle.sr_watch.specs.declared.parts.Part.{Part}
use Rattle.sr_watch.specs.Parts.{is_core}
use Rattle.sr_watch.specs.Trail.{Entries}
use Rattle.sr_watch.specs.declared.watches.TheConstants.{UNSEEN, SEEN}
use Rattle.sr_watch.specs.Watching.{on_side, times}
use Rattle.sr_watch.specs.Resting.{AreWatched}

-- the mark and the flag of a clause that is attached to a part, or to none though it may still be listed
abbrev pub mark_of : Option Part → Bool
mark_of None = false
mark_of (Some p) = true

abbrev pub flag_of : Option Part → Bool
flag_of None = true
flag_of (Some p) = is_core p

-- one clause has the mark and the flag of a part
pub record IsParted (m n : Memory) (at : ℕ) (p : Option Part) : Type 0 where
  pub here : cell_at n at ≡ record (cell_at m at) { marked = mark_of p; flagged = flag_of p }
  pub others : (r : ℕ) → r ≢ at → cell_at n r ≡ cell_at m r
  pub most : n.most ≡ m.most
  pub used : n.used ≡ m.used
  pub cells : held_cells n ≡ held_cells m

-- one clause is attached to a part, its literals in any order
pub record IsMoved (m n : Memory) (at : ℕ) (p : Part) : Type 0 where
  pub held : (cell_at n at).held ≡ (cell_at m at).held
  pub number : (cell_at n at).number ≡ (cell_at m at).number
  pub marked : (cell_at n at).marked ≡ true
  pub flagged : (cell_at n at).flagged ≡ is_core p
  pub size : length (cell_at n at).lits ≡ length (cell_at m at).lits
  pub set : SameSet (cell_at n at).lits (cell_at m at).lits
  pub others : (r : ℕ) → r ≢ at → cell_at n r ≡ cell_at m r
  pub most : n.most ≡ m.most
  pub used : n.used ≡ m.used
  pub cells : held_cells n ≡ held_cells m

-- both sides hold what holds between calls, for some entries
pub record AreWatchedSomehow (m : Memory) (known : List ℕ) (core rest : Watches) : Type 0 where
  pub entries : Entries
  pub watched : AreWatched m known entries core rest

-- on the side that it is attached to, a clause is listed once at most as one of at most one literal
pub record IsListedOnce (m : Memory) (core rest : Watches) (at : ℕ) : Type 0 where
  pub on_core : on_side true m at ≡ true → times core.lists at UNSEEN + times core.lists at SEEN ≤ 1
  pub on_rest : on_side false m at ≡ true → times rest.lists at UNSEEN + times rest.lists at SEEN ≤ 1
