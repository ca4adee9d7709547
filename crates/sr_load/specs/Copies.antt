-- Copies of the cited clauses in a propagator of their own.
use Rattle.std.specs.Prelude.{ℕ, ◌<◌, ◌≡◌, ◌≢◌, ◌==◌, Bool, true, false, cond, List, length, take, Some, None}
use Rattle.sr_base.specs.Literal.{Literal, SameSet}
use Rattle.sr_model.specs.Assignment.{holds_number}
use Rattle.sr_model.specs.Chain.{clauses, clause_of}
use Rattle.sr_watch.specs.declared.parts.Part.TheVariants.{All}
use Rattle.sr_watch.specs.Parts.{counts}
use Rattle.sr_watch.specs.State.{Slot, State, slot_in, no_clause, assumed, IsSound}
use Rattle.sr_watch.specs.Changes.{IsReordered, with_part}
use Rattle.sr_model.specs.Refutation.{Refutes}
use Rattle.sr_trimming.specs.Lean.{is_lean}
use Rattle.sr_trimming.specs.CoreFirst.{AreOf}
use Rattle.sr_load.specs.Loaded.{LoadedState, all_in, alive_in, cited_alive}
use Rattle.sr_load.specs.Numbers.{entry_of, has_clause}
use Rattle.sr_load.specs.Tied.{IsClauseIn, part_of, AreAssumed}
use Rattle.sr_load.specs.Finding.{Finds}

-- what contracts see of copies: the clauses under references, the reference of each number, 0 where it has no copy, and the
-- literals that are assumed
pub record Copied : Type 0 where
  pub slots : List Slot
  pub refs : List ℕ
  pub assumed : List Literal

-- a held copy is that to which its number leads
pub record AreLed (slots : List Slot) (refs : List ℕ) : Type 0 where
  pub some : (r : ℕ) → (slot_in slots r).held ≡ true → 0 < r
  pub low : (r : ℕ) → (slot_in slots r).held ≡ true → 0 < (slot_in slots r).number
  pub leads : (r : ℕ) → (slot_in slots r).held ≡ true → entry_of refs (slot_in slots r).number ≡ r
  pub held : (n : ℕ) → 0 < n → entry_of refs n ≢ 0 → (slot_in slots (entry_of refs n)).held ≡ true

pub record KeepsCopies (s : State) (refs : List ℕ) (given : List Literal) (marks : List ℕ) : Type 0 where
  pub led : AreLed s.slots refs
  pub entries : AreAssumed s.lits s.reasons given marks

-- literals are the first ones of others
abbrev pub Begins : List Literal → List Literal → Type 0
Begins some all = take (length some) all ≡ some

-- an attached copy of a clause
abbrev pub copy_of : List Literal → ℕ → Slot
copy_of ls n = record { held = true; lits = ls; number = n; part = Some All }

-- one clause more has a copy
pub record IsCopied (old new : Copied) (id : ℕ) (ls : List Literal) : Type 0 where
  pub at : ℕ
  pub some : 0 < at
  pub none : slot_in old.slots at ≡ no_clause
  pub here : IsReordered (copy_of ls id) (slot_in new.slots at)
  pub others : (r : ℕ) → r ≢ at → IsReordered (slot_in old.slots r) (slot_in new.slots r)
  pub entry : entry_of new.refs id ≡ at
  pub entries : (n : ℕ) → 0 < n → n ≢ id → entry_of new.refs n ≡ entry_of old.refs n

-- the same copies
pub record AreSameCopies (old new : Copied) : Type 0 where
  pub slots : new.slots ≡ old.slots
  pub entries : (n : ℕ) → entry_of new.refs n ≡ entry_of old.refs n

-- the copy of a number, if there is one, isn't attached any more
abbrev pub dropped_copy : Copied → ℕ → Copied
dropped_copy c n = cond (entry_of c.refs n == 0) c (record c { slots = with_part c.slots (entry_of c.refs n) None })

-- where there is one it is attached
abbrev pub IsAttachedCopy : Copied → ℕ → Type 0
IsAttachedCopy c n = entry_of c.refs n ≢ 0 → counts All (slot_in c.slots (entry_of c.refs n)).part ≡ true

-- what the copies find of literals
pub record IsFound (slots : List Slot) (given : List Literal) (b : Bool) (ns : List ℕ) : Type 0 where
  pub state : State
  pub slots_are : state.slots ≡ slots
  pub set : SameSet (assumed state) given
  pub sound : IsSound state
  pub finds : Finds state All b ns

-- each copy is that of a cited clause, and attached where the clause is alive
pub record AreCopies (st : LoadedState) (c : Copied) : Type 0 where
  pub cited : (n : ℕ) → 0 < n → entry_of c.refs n ≢ 0 → holds_number n st.cited ≡ true
  pub linked : (n : ℕ) (d : List Literal) → entry_of c.refs n ≢ 0 → clause_of (all_in st) n ≡ Some d → IsClauseIn (slot_in c.slots (entry_of c.refs n)) n d
  pub parts : (n : ℕ) → 0 < n → entry_of c.refs n ≢ 0 → (slot_in c.slots (entry_of c.refs n)).part ≡ part_of (has_clause (alive_in st) n) false
  pub led : AreLed c.slots c.refs

-- of the first citations each clause that is alive has a copy
abbrev pub CoversFirst : LoadedState → Copied → ℕ → Type 0
CoversFirst st c k = (n : ℕ) → holds_number n (take k st.cited) ≡ true → has_clause (alive_in st) n ≡ true → entry_of c.refs n ≢ 0

-- what has a copy keeps it
abbrev pub KeepCopies : Copied → Copied → Type 0
KeepCopies old new = (n : ℕ) → 0 < n → entry_of old.refs n ≢ 0 → entry_of new.refs n ≢ 0

-- a clause that is alive has a copy
abbrev pub HasCopy : LoadedState → Copied → ℕ → Type 0
HasCopy st c n = has_clause (alive_in st) n ≡ true → entry_of c.refs n ≢ 0

-- whether the cited clauses alone refute what is assumed, and a lean chain of them where they do
abbrev pub CitedTests : LoadedState → Bool → List ℕ → Type 0
CitedTests st false ns = ¬ Refutes (clauses (cited_alive st)) st.assumed
CitedTests st true ns = (is_lean (alive_in st) st.assumed ns ≡ true) × AreOf ns (cited_alive st)
