-- Watches of clauses that aren't attached any more.
use Rattle.std.specs.Prelude.{ℕ, ◌≡◌, ◌≢◌, ◌⊎◌, Bool, true, false, []}
use Rattle.sr_arena.specs.Cells.{Cell, Memory, cell_at, held_cells}
use Rattle.sr_lists.specs.Family.{Family}
use Rattle.sr_watch.specs.Watching.{on_side, is_of, times, tally, AreStocked}
use Rattle.sr_watch.specs.Walking.{HasSameShape}

-- one list has no watch of a clause that isn't attached to the side, and all other watches are as they were
pub record IsPurgedAt (core : Bool) (m : Memory) (old new : Family) (key : ℕ) : Type 0 where
  pub shape : HasSameShape old new
  pub ahead : new.ahead ≡ []
  pub stocked : AreStocked core m new []
  pub same : (r k : ℕ) → on_side core m r ≡ true → times new r k ≡ times old r k
  pub others : (r k : ℕ) → k ≢ key → times new r k ≡ times old r k
  pub gone : (r : ℕ) → on_side core m r ≡ false → times new r key ≡ 0

-- the same of all lists
pub record IsPurged (core : Bool) (m : Memory) (old new : Family) : Type 0 where
  pub shape : HasSameShape old new
  pub ahead : new.ahead ≡ []
  pub stocked : AreStocked core m new []
  pub same : (r k : ℕ) → on_side core m r ≡ true → times new r k ≡ times old r k
  pub gone : (r : ℕ) → on_side core m r ≡ false → tally new [] (is_of r) ≡ 0

-- a clause whose flag may have been taken away, where it isn't marked
pub record IsClearedCell (old new : Cell) : Type 0 where
  pub held : new.held ≡ old.held
  pub lits : new.lits ≡ old.lits
  pub number : new.number ≡ old.number
  pub marked : new.marked ≡ old.marked
  pub flagged : (new.flagged ≡ old.flagged) ⊎ ((old.marked ≡ false) × (new.flagged ≡ false))

pub record AreCleared (old new : Memory) : Type 0 where
  pub each : (r : ℕ) → IsClearedCell (cell_at old r) (cell_at new r)
  pub most : new.most ≡ old.most
  pub used : new.used ≡ old.used
  pub cells : held_cells new ≡ held_cells old
