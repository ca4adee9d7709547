-- How calls change a propagator.
use Rattle.std.specs.Prelude.{ℕ, ◌≡◌, ◌≢◌, ◌<◌, ◌≤◌, ◌⊎◌, Option, Some, None, List, [], ◌∷◌, ◌++◌, cond, length, take, slice_set}
use Rattle.sr_base.specs.Literal.{Literal, has, SameSet}
use Rattle.sr_watch.specs.declared.parts.Part.{Part}
use Rattle.sr_watch.specs.State.{Slot, State, no_clause, slot_in, slot_at, lits_at, lit_at, reason_at, IsOfPart, assumed}

-- the clause is under a reference that named none, and all else stays
pub record IsAdded (old new : State) (at : ℕ) (c : Slot) : Type 0 where
  pub none : slot_at old at ≡ no_clause
  pub here : slot_at new at ≡ c
  pub others : (r : ℕ) → r ≢ at → slot_at new r ≡ slot_at old r
  pub rest : new ≡ record old { slots = new.slots }

-- the same clause, with its literals in any order
pub record IsReordered (old new : Slot) : Type 0 where
  pub held : new.held ≡ old.held
  pub number : new.number ≡ old.number
  pub part : new.part ≡ old.part
  pub size : length new.lits ≡ length old.lits
  pub set : SameSet new.lits old.lits

-- the same of each clause
pub record AreReordered (old new : List Slot) : Type 0 where
  pub each : (r : ℕ) → IsReordered (slot_in old r) (slot_in new r)

-- a clause is attached to another part, or to none
abbrev pub with_part : List Slot → ℕ → Option Part → List Slot
with_part ss at p = slice_set ss at (record (slot_in ss at) { part = p })

-- the first entries alone
abbrev pub cut_to : State → ℕ → State
cut_to s n = record s { lits = take n s.lits; reasons = take n s.reasons }

-- the literal is assumed; nothing changes where it was
abbrev pub with_assumed : State → Literal → State
with_assumed s l = cond (has l (assumed s)) s (record s { lits = s.lits ++ l ∷ []; reasons = s.reasons ++ 0 ∷ [] })

-- an entry has the reason that it had; or it was derived, and its reason is the clause, which has its literal
-- alone
abbrev pub IsTakenOver : State → State → ℕ → ℕ → Type 0
IsTakenOver old new at i =
    (reason_at new i ≡ reason_at old i) ⊎ ((reason_at old i ≢ 0) × (reason_at new i ≡ at) × (lits_at old at ≡ lit_at old i ∷ []))

-- the clause is attached to the part. The entries stay, but that a clause of one literal may become the
-- reason of the derived entry of that literal
pub record IsAttachedTo (old new : State) (at : ℕ) (p : Part) : Type 0 where
  pub clauses : AreReordered (with_part old.slots at (Some p)) new.slots
  pub taken_over : (i : ℕ) → IsTakenOver old new at i
  pub size : length new.reasons ≡ length old.reasons
  pub rest : new ≡ record old { slots = new.slots; reasons = new.reasons }

-- the clause isn't attached any more. The first `n` entries are left: all where no entry's reason is the
-- clause, and else all, with another reason for that entry, or those before it
pub record IsDetached (old new : State) (at n : ℕ) : Type 0 where
  pub slots : new.slots ≡ with_part old.slots at None
  pub within : n ≤ length old.lits
  pub lits : new.lits ≡ take n old.lits
  pub size : length new.reasons ≡ n
  pub reasons : (i : ℕ) → i < n → reason_at old i ≢ at → reason_at new i ≡ reason_at old i
  pub others : (i : ℕ) → i < n → reason_at old i ≡ at → reason_at new i ≢ 0
  pub cut : (n ≡ length old.lits) ⊎ (reason_at old n ≡ at)
  pub rest : new ≡ record old { slots = new.slots; lits = new.lits; reasons = new.reasons }

-- entries were only derived
pub record Derives (old new : State) : Type 0 where
  pub clauses : AreReordered old.slots new.slots
  pub lits : take (length old.lits) new.lits ≡ old.lits
  pub reasons : take (length old.reasons) new.reasons ≡ old.reasons
  pub assumed : assumed new ≡ assumed old
  pub rest : new ≡ record old { slots = new.slots; lits = new.lits; reasons = new.reasons }

-- each entry behind the old ones is derived, by a clause of the part
abbrev pub AreDerivedBy : Part → State → State → Type 0
AreDerivedBy p old new = (i : ℕ) → length old.lits ≤ i → i < length new.lits → (reason_at new i ≢ 0) × IsOfPart new p (reason_at new i)
