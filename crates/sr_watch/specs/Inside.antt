-- What a propagator keeps in its fields, and what contracts see of them.
use Rattle.std.specs.Prelude.{ℕ, ◌+◌, ◌*◌, ◌≡◌, ◌<◌, ◌≤◌, ◌==◌, Bool, true, cond, Option, Some, None, List, [], ◌∷◌, length, map, slice_index_or}
use Rattle.sr_base.specs.Literal.{Literal, NoRepeats}
use Rattle.sr_base.specs.declared.literal.TheConstants.{MOST_VARS}
use Rattle.sr_arena.specs.Cells.{Cell, Memory, cell_at}
use Rattle.sr_arena.specs.Cells as arena
use Rattle.sr_model.specs.Assignment.{holds_number}
use Rattle.sr_watch.specs.declared.parts.Part.{Part}
use Rattle.sr_watch.specs.declared.parts.Part.TheVariants.{Core, All}
use Rattle.sr_watch.specs.State.{Slot, State, IsSound}

-- a clause's mark says that it is attached, and its flag that it is of the core
abbrev pub part_of : Bool → Bool → Option Part
part_of marked flagged = cond marked (Some (cond flagged Core All)) None

abbrev pub slot_of : Cell → Slot
slot_of c = record { held = c.held; lits = c.lits; number = c.number; part = part_of c.marked c.flagged }

abbrev pub slots_of : Memory → List Slot
slots_of m = map slot_of m.cells

abbrev pub state_of : ℕ → Memory → List Literal → List ℕ → State
state_of vars m lits reasons = record { vars = vars; most = m.most; slots = slots_of m; lits = lits; reasons = reasons }

-- the literals of the entries that are derived
abbrev pub derived_in : List Literal → List ℕ → List Literal
derived_in [] rs = []
derived_in (l ∷ ls) [] = []
derived_in (l ∷ ls) (r ∷ rs) = cond (r == 0) (derived_in ls rs) (l ∷ derived_in ls rs)

-- no more entries than these come
abbrev pub most_entries : ℕ → ℕ
most_entries vars = cond (vars == 0) 0 (4 * vars + 4)

-- the held clauses are the known ones
pub record AreKnown (m : Memory) (known : List ℕ) : Type 0 where
  pub held : (i : ℕ) → i < length known → arena.IsHeld m (slice_index_or known i 0)
  pub all : (r : ℕ) → arena.IsHeld m r → holds_number r known ≡ true

pub record IsKept (vars : ℕ) (m : Memory) (known : List ℕ) (lits : List Literal) (reasons : List ℕ) : Type 0 where
  pub fits : vars ≤ MOST_VARS
  pub sound : IsSound (state_of vars m lits reasons)
  pub derived_once : NoRepeats (derived_in lits reasons)
  pub listed : AreKnown m known
