-- What contracts see of a propagator: its clauses under references, and its entries.
use Rattle.std.specs.Prelude.{ℕ, ◌+◌, ◌<◌, ◌≤◌, ◌≡◌, ◌≢◌, ◌==◌, Bool, true, false, cond, Option, Some, None, List, [], ◌∷◌, length, take, slice_index_or}
use Rattle.sr_base.specs.Literal.{Literal, plus, variable, complement, same, has, NoRepeats}
use Rattle.sr_watch.specs.declared.parts.Part.{Part}
use Rattle.sr_watch.specs.declared.parts.Part.TheVariants.{All}
use Rattle.sr_watch.specs.Parts.{counts}

-- what stands under a reference: whether a clause is held there, its literals, the caller's number of it, and
-- the part that it is attached to
pub record Slot : Type 0 where
  pub held : Bool
  pub lits : List Literal
  pub number : ℕ
  pub part : Option Part

-- no clause
abbrev pub no_clause : Slot
no_clause = record { held = false; lits = []; number = 0; part = None }

-- a clause that is held and not attached
abbrev pub held_clause : List Literal → ℕ → Slot
held_clause ls n = record { held = true; lits = ls; number = n; part = None }

-- the greatest variable that has room, the most cells that may be held, the clauses by reference, the
-- literals of the entries, and for each entry the clause that it was derived by, or 0 where it is assumed
pub record State : Type 0 where
  pub vars : ℕ
  pub most : ℕ
  pub slots : List Slot
  pub lits : List Literal
  pub reasons : List ℕ

abbrev pub slot_in : List Slot → ℕ → Slot
slot_in ss at = slice_index_or ss at no_clause

abbrev pub slot_at : State → ℕ → Slot
slot_at s at = slot_in s.slots at

abbrev pub lits_at : State → ℕ → List Literal
lits_at s at = (slot_at s at).lits

-- the reference names a held clause
abbrev pub IsHeld : State → ℕ → Type 0
IsHeld s at = (slot_at s at).held ≡ true

-- the reference names an attached clause of the part
abbrev pub IsOfPart : State → Part → ℕ → Type 0
IsOfPart s p at = counts p (slot_at s at).part ≡ true

abbrev pub IsAttached : State → ℕ → Type 0
IsAttached s at = IsOfPart s All at

-- the attached clauses of a part
abbrev pub clauses_in : Part → List Slot → List (List Literal)
clauses_in p [] = []
clauses_in p (c ∷ cs) = cond (counts p c.part) (c.lits ∷ clauses_in p cs) (clauses_in p cs)

abbrev pub clauses_of : State → Part → List (List Literal)
clauses_of s p = clauses_in p s.slots

-- the cells of 32 bits of a clause: its literals and four more
abbrev pub weight : Slot → ℕ
weight c = cond c.held (length c.lits + 4) 0

abbrev pub weights : List Slot → ℕ
weights [] = 0
weights (c ∷ cs) = weight c + weights cs

-- the cells of 32 bits of all held clauses
abbrev pub held_cells : State → ℕ
held_cells s = weights s.slots

-- the variables have room
abbrev pub AreWithin : ℕ → List Literal → Type 0
AreWithin v ls = (l : Literal) → has l ls ≡ true → variable l ≤ v

-- the literal and the reason of an entry
abbrev pub lit_at : State → ℕ → Literal
lit_at s i = slice_index_or s.lits i (plus 0)

abbrev pub reason_at : State → ℕ → ℕ
reason_at s i = slice_index_or s.reasons i 0

-- the literals of the entries that are assumed
abbrev pub assumed_in : List Literal → List ℕ → List Literal
assumed_in [] rs = []
assumed_in (l ∷ ls) [] = []
assumed_in (l ∷ ls) (r ∷ rs) = cond (r == 0) (l ∷ assumed_in ls rs) (assumed_in ls rs)

abbrev pub assumed : State → List Literal
assumed s = assumed_in s.lits s.reasons

-- what the first entry of a literal's variable makes the literal
abbrev pub value_in : List Literal → Literal → Option Bool
value_in [] l = None
value_in (k ∷ ks) l = cond (same k l) (Some true) (cond (same k (complement l)) (Some false) (value_in ks l))

-- the reason of the variable's derived entry, 0 where it has none
abbrev pub reason_in : List Literal → List ℕ → ℕ → ℕ
reason_in [] rs v = 0
reason_in (l ∷ ls) [] v = 0
reason_in (l ∷ ls) (r ∷ rs) v = cond (variable l == v) (cond (r == 0) (reason_in ls rs v) r) (reason_in ls rs v)

-- each literal of the clause is false
abbrev pub AllFalse : List Literal → List Literal → Type 0
AllFalse ls c = (k : Literal) → has k c ≡ true → has (complement k) ls ≡ true

-- the literal is of the clause, and the complements of the others are in the list
pub record IsForcedBy (c before : List Literal) (l : Literal) : Type 0 where
  pub of_clause : has l c ≡ true
  pub others : (k : Literal) → has k c ≡ true → k ≢ l → has (complement k) before ≡ true

-- neither the literal nor its complement is in the list
pub record IsOpen (l : Literal) (ls : List Literal) : Type 0 where
  pub not_true : has l ls ≡ false
  pub not_false : has (complement l) ls ≡ false

-- what holds of every propagator
pub record IsSound (s : State) : Type 0 where
  pub sizes : length s.reasons ≡ length s.lits
  -- the variables of entries and clauses have room
  pub within : AreWithin s.vars s.lits
  pub clauses_within : (r : ℕ) → AreWithin s.vars (lits_at s r)
  -- clauses have distinct literals, and attached ones are held
  pub distinct : (r : ℕ) → NoRepeats (lits_at s r)
  pub held : (r : ℕ) → IsAttached s r → IsHeld s r
  -- no literal is assumed twice
  pub once : NoRepeats (assumed s)
  -- the reason of a derived entry is attached and forces it by the entries before, and it was neither true
  -- nor false
  pub attached : (i : ℕ) → i < length s.lits → reason_at s i ≢ 0 → IsAttached s (reason_at s i)
  pub forced : (i : ℕ) → i < length s.lits → reason_at s i ≢ 0 → IsForcedBy (lits_at s (reason_at s i)) (take i s.lits) (lit_at s i)
  pub news : (i : ℕ) → i < length s.lits → reason_at s i ≢ 0 → IsOpen (lit_at s i) (take i s.lits)
