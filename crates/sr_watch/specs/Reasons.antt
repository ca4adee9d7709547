-- Reasons of entries.
use Rattle.std.specs.Prelude.{ℕ, ◌≡◌, ◌≢◌, ◌<◌, ◌≤◌, ◌⊎◌, Bool, true, false, Option, Some, None, List, [], ◌∷◌, length, take, slice_index_or, slice_set}
use Rattle.sr_base.specs.Literal.{plus, has}
use Rattle.sr_arena.specs.Cells.{Memory, cell_at, IsHeld}
use Rattle.sr_watch.specs.State.{IsAttached, IsForcedBy}
use Rattle.sr_watch.specs.Trail.{Entries, first_entries}
use Rattle.sr_watch.specs.Marks.{joined}
use Rattle.sr_watch.specs.Watching.{is_short, on_side}

-- the clause is the reason of the entry at this place and of no other, or it is the reason of none and the place is that past
-- the entries
pub record IsReasonAt (e : Entries) (at n : ℕ) : Type 0 where
  pub within : n ≤ length e.lits
  pub here : n < length e.lits → slice_index_or e.reasons n 0 ≡ at
  pub others : (i : ℕ) → i < length e.lits → i ≢ n → slice_index_or e.reasons i 0 ≢ at

-- an attached clause that forces the derived entry at this place by the entries before it
pub record MayBeReason (m : Memory) (e : Entries) (n r : ℕ) : Type 0 where
  pub within : n < length e.lits
  pub derived : slice_index_or e.reasons n 0 ≢ 0
  pub some : 0 < r
  pub attached : IsAttached (joined e m) r
  pub forced : IsForcedBy (cell_at m r).lits (take n e.lits) (slice_index_or e.lits n (plus 0))

-- one entry has another reason
abbrev pub with_reason : Entries → ℕ → ℕ → Entries
with_reason e n r = record e { reasons = slice_set e.reasons n r }

-- a clause of one literal became the reason of the entry of that literal
pub record IsTakenOverBy (m : Memory) (e g : Entries) (at : ℕ) : Type 0 where
  pub place : ℕ
  pub may : MayBeReason m e place at
  pub single : (cell_at m at).lits ≡ slice_index_or e.lits place (plus 0) ∷ []
  pub before : is_short (cell_at m (slice_index_or e.reasons place 0)).lits ≡ false
  pub value : g ≡ with_reason e place at

-- the same, or nothing changed
abbrev pub MayTakeOver : Memory → Entries → Entries → ℕ → Type 0
MayTakeOver m e g at = (g ≡ e) ⊎ IsTakenOverBy m e g at

-- a clause isn't the reason of an entry any more, since another clause is that now
pub record IsHandedOn (m : Memory) (e g : Entries) (at : ℕ) : Type 0 where
  pub place : ℕ
  pub reason : ℕ
  pub was : IsReasonAt e at place
  pub may : MayBeReason m e place reason
  pub other : reason ≢ at
  pub long : is_short (cell_at m reason).lits ≡ false
  pub value : g ≡ with_reason e place reason

-- the entries before the one that a clause was the reason of are left, and all where there is none
pub record IsCutAt (e g : Entries) (at : ℕ) : Type 0 where
  pub place : ℕ
  pub was : IsReasonAt e at place
  pub value : g ≡ first_entries e place

-- a clause isn't the reason of an entry any more
abbrev pub IsReleased : Memory → Entries → Entries → ℕ → Type 0
IsReleased m e g at = IsHandedOn m e g at ⊎ IsCutAt e g at

-- a held clause for each variable, or none
pub record AreSpares (m : Memory) (vars : ℕ) (spares : List ℕ) : Type 0 where
  pub room : vars ≤ length spares
  pub held : (v : ℕ) → slice_index_or spares v 0 ≢ 0 → IsHeld m (slice_index_or spares v 0)

-- the reasons of entries are held clauses, each with the entry's literal, and each is that of one entry
pub record AreReasons (m : Memory) (e : Entries) : Type 0 where
  pub held : (i : ℕ) → 0 < slice_index_or e.reasons i 0 → IsHeld m (slice_index_or e.reasons i 0)
  pub of_clause : (i : ℕ) → 0 < slice_index_or e.reasons i 0 → has (slice_index_or e.lits i (plus 0)) (cell_at m (slice_index_or e.reasons i 0)).lits ≡ true
  pub once : (i j : ℕ) → 0 < slice_index_or e.reasons i 0 → slice_index_or e.reasons i 0 ≡ slice_index_or e.reasons j 0 → i ≡ j

-- a clause of more than one literal in the place of a reason that isn't attached any more
pub record MaySucceed (m : Memory) (e : Entries) (n r : ℕ) : Type 0 where
  pub within : n < length e.lits
  pub derived : slice_index_or e.reasons n 0 ≢ 0
  pub some : 0 < r
  pub long : is_short (cell_at m r).lits ≡ false
  pub gone : (core : Bool) → on_side core m (slice_index_or e.reasons n 0) ≡ false

-- the entry at a place has another reason, or the entries from there on are gone
abbrev pub released_entries : Entries → ℕ → Option ℕ → Entries
released_entries e n None = first_entries e n
released_entries e n (Some r) = with_reason e n r
