-- What a propagator finds of the literals that are assumed in it, and what that says of numbered clauses.
use Rattle.std.specs.Prelude.{ℕ, ◌<◌, ◌≤◌, ◌≡◌, Option, None, Bool, true, false, List, [], ◌∷◌, map, Some}
use Rattle.sr_base.specs.Literal.{Literal, SameSet, NoRepeats}
use Rattle.sr_model.specs.Assignment.{holds_number}
use Rattle.sr_model.specs.Refutation.{Refutes}
use Rattle.sr_model.specs.Chain.{Numbered, clauses, clause_of}
use Rattle.sr_watch.specs.declared.parts.Part.{Part}
use Rattle.sr_watch.specs.declared.parts.Part.TheVariants.{Core, All}
use Rattle.sr_watch.specs.Parts.{counts}
use Rattle.sr_watch.specs.State.{Slot, State, slot_in, slot_at, IsAttached, clauses_of, assumed}
use Rattle.sr_watch.specs.Lean.{is_lean}
use Rattle.sr_trimming.specs.Lean as trimming
use Rattle.sr_load.specs.Loaded.{LoadedState, standing_in, next_of, alive_in, cited_alive}
use Rattle.sr_load.specs.Numbers.{has_clause}

abbrev pub number_at : State → ℕ → ℕ
number_at s at = (slot_at s at).number

abbrev pub AreAllAttached : State → List ℕ → Type 0
AreAllAttached s [] = Unit {0}
AreAllAttached s (h ∷ hs) = IsAttached s h × AreAllAttached s hs

-- those that aren't 0
abbrev pub AreAttachedOrNone : State → List ℕ → Type 0
AreAttachedOrNone s [] = Unit {0}
AreAttachedOrNone s (h ∷ hs) = (0 < h → IsAttached s h) × AreAttachedOrNone s hs

-- a lean chain of attached clauses has these numbers
pub record IsNumbered (s : State) (ns : List ℕ) : Type 0 where
  pub refs : List ℕ
  pub lean : is_lean s (assumed s) refs ≡ true
  pub attached : AreAllAttached s refs
  pub numbers : ns ≡ map (number_at s) refs

-- whether the clauses of a part refute what is assumed; a conflict over the core may rest on other clauses
abbrev pub Finds : State → Part → Bool → List ℕ → Type 0
Finds s p false ns = (¬ Refutes (clauses_of s p) (assumed s)) × (ns ≡ [])
Finds s p true ns = IsNumbered s ns

-- a clause of the part is one of the numbered ones, in any order
pub record IsOneOf (live : Numbered) (c : Slot) : Type 0 where
  pub clause : List Literal
  pub found : clause_of live c.number ≡ Some clause
  pub set : SameSet c.lits clause
  pub distinct : NoRepeats clause

-- a numbered clause is one of the part
pub record IsInPart (p : Part) (slots : List Slot) (c : List Literal) : Type 0 where
  pub at : ℕ
  pub of_part : counts p (slot_in slots at).part ≡ true
  pub set : SameSet (slot_in slots at).lits c

-- the clauses of the part are the numbered ones
pub record AreAlike (p : Part) (slots : List Slot) (live : Numbered) : Type 0 where
  pub one : (r : ℕ) → counts p (slot_in slots r).part ≡ true → IsOneOf live (slot_in slots r)
  pub all : (n : ℕ) (c : List Literal) → clause_of live n ≡ Some c → IsInPart p slots c

-- the alive clauses of a part
abbrev pub of_part : LoadedState → Part → Numbered
of_part st Core = cited_alive st
of_part st All = alive_in st

-- whether they refute what is assumed, and a lean chain over the alive ones
abbrev pub PartTests : LoadedState → Part → Bool → List ℕ → Type 0
PartTests st p false ns = (¬ Refutes (clauses (of_part st p)) st.assumed) × (ns ≡ [])
PartTests st p true ns = trimming.is_lean (alive_in st) st.assumed ns ≡ true

-- the numbers are cited
abbrev pub AreCited : LoadedState → List ℕ → Type 0
AreCited st ns = (n : ℕ) → holds_number n ns ≡ true → holds_number n st.cited ≡ true

-- a number of a clause
abbrev pub IsNumber : LoadedState → ℕ → Type 0
IsNumber st n = (0 < n) × (n < next_of st)

-- what is cited is alive or was taken back
abbrev pub AliveOrBack : LoadedState → Type 0
AliveOrBack st = (n : ℕ) → holds_number n st.cited ≡ true → n < (standing_in st).next → has_clause (alive_in st) n ≡ true

-- the least number of an alive clause from one on; none where there is none
abbrev pub IsNextAlive : LoadedState → ℕ → Option ℕ → Type 0
IsNextAlive st from None = (n : ℕ) → from ≤ n → has_clause (alive_in st) n ≡ false
IsNextAlive st from (Some id) = (from ≤ id) × (has_clause (alive_in st) id ≡ true) × ((n : ℕ) → from ≤ n → n < id → has_clause (alive_in st) n ≡ false)
