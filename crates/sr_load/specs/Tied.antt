-- How the clauses of a loaded proof stand in a propagator: each under the reference to which its number leads, attached
-- exactly where it is alive, and to the core where it is cited.
use Rattle.std.specs.Prelude.{ℕ, ◌+◌, ◌<◌, ◌≤◌, ◌≡◌, Bool, true, cond, List, length, take, slice_index_or, Option, Some, None}
use Rattle.sr_base.specs.Literal.{Literal, SameSet, NoRepeats}
use Rattle.sr_model.specs.Assignment.{holds_number}
use Rattle.sr_model.specs.Chain.{Numbered, clauses, clause_of}
use Rattle.sr_model.specs.Judging.{cells_of}
use Rattle.sr_watch.specs.declared.parts.Part.{Part}
use Rattle.sr_watch.specs.declared.parts.Part.TheVariants.{Core, All}
use Rattle.sr_watch.specs.State.{Slot, State, slot_in, held_cells, assumed_in}
use Rattle.sr_trimming.specs.Loading.{at_start}
use Rattle.sr_trimming.specs.From.{LemmasHavePivots}
use Rattle.sr_load.specs.declared.records.Told.{Told}
use Rattle.sr_load.specs.Loaded.{LoadedState, all_lines, all_in, standing_in, next_of, alive_in}
use Rattle.sr_load.specs.Numbers.{entry_of, flag_of, has_clause}
use Rattle.sr_load.specs.Records.{AreTold, RemoveAlive}

-- the clause of a number is held, in any order
pub record IsClauseIn (s : Slot) (n : ℕ) (c : List Literal) : Type 0 where
  pub held : s.held ≡ true
  pub number : s.number ≡ n
  pub set : SameSet s.lits c
  pub distinct : NoRepeats c

-- what is held under a reference is that to which its number leads
pub record IsLed (refs : List ℕ) (at : ℕ) (s : Slot) : Type 0 where
  pub some : 0 < at
  pub low : 0 < s.number
  pub high : s.number ≤ length refs
  pub leads : entry_of refs s.number ≡ at

-- the part of a clause: none where it isn't alive, the core where it is cited
abbrev pub part_of : Bool → Bool → Option Part
part_of alive cited = cond alive (Some (cond cited Core All)) None

pub record IsTied (all alive : Numbered) (cited : List ℕ) (slots : List Slot) (refs : List ℕ) : Type 0 where
  pub linked : (n : ℕ) (c : List Literal) → clause_of all n ≡ Some c → IsClauseIn (slot_in slots (entry_of refs n)) n c
  pub led : (r : ℕ) → (slot_in slots r).held ≡ true → IsLed refs r (slot_in slots r)
  pub parts : (n : ℕ) → 0 < n → n ≤ length refs → (slot_in slots (entry_of refs n)).part ≡ part_of (has_clause alive n) (holds_number n cited)

-- after the first entries the first literals are assumed
pub record IsMark (lits : List Literal) (reasons : List ℕ) (ls : List Literal) (i mark : ℕ) : Type 0 where
  pub within : mark ≤ length lits
  pub set : SameSet (assumed_in (take mark lits) (take mark reasons)) (take i ls)

-- the literals are assumed, and for each there is the mark before it
pub record AreAssumed (lits : List Literal) (reasons : List ℕ) (ls : List Literal) (marks : List ℕ) : Type 0 where
  pub sizes : length reasons ≡ length lits
  pub set : SameSet (assumed_in lits reasons) ls
  pub count : length marks ≡ length ls
  pub each : (i : ℕ) → i < length ls → IsMark lits reasons ls i (slice_index_or marks i 0)
  pub rise : (i j : ℕ) → i ≤ j → j < length ls → slice_index_or marks i 0 ≤ slice_index_or marks j 0

-- the flags tell which numbers are cited, and each cited number is that of a clause that is alive or was taken back
pub record AreFlagged (alive : Numbered) (next : ℕ) (cited : List ℕ) (flags : List Bool) : Type 0 where
  pub flag : (n : ℕ) → 0 < n → n ≤ length flags → flag_of flags n ≡ holds_number n cited
  pub known : (n : ℕ) → holds_number n cited ≡ true → (0 < n) × (n ≤ length flags)
  pub alive_or_back : (n : ℕ) → holds_number n cited ≡ true → n < next → has_clause alive n ≡ true

pub record Keeps (st : LoadedState) (s : State) (refs : List ℕ) (told : List Told) (flags : List Bool) (marks : List ℕ) (reached : ℕ) : Type 0 where
  pub tied : IsTied (all_in st) (alive_in st) st.cited s.slots refs
  pub entries : AreAssumed s.lits s.reasons st.assumed marks
  pub flagged : AreFlagged (alive_in st) (standing_in st).next st.cited flags
  pub lemmas : AreTold (all_lines st) told
  pub pivots : LemmasHavePivots (all_lines st)
  pub removed : RemoveAlive (at_start st.formula.clauses) st.standing
  pub cells : held_cells s ≡ cells_of (clauses (all_in st))
  pub size : length refs + 1 ≡ next_of st
  pub flags_size : length flags ≡ length refs
  pub next : reached + 1 ≡ (standing_in st).next
  pub small : length refs < 2147483647
