-- What is written is read again, whatever follows. Each law is the contract of a public function.
use Rattle.std.specs.Prelude.{ℕ, ◌+◌, ◌-◌, ◌^◌, ◌<◌, ◌≤◌, ◌≡◌, ℤ, nat_abs, List, [], ◌++◌, length, map, All, Option, Some, None, Ok}
use Rattle.std.specs.Fmt.{signed_decimal}
use Rattle.sr_base.specs.Literal.{Literal, variable, NoRepeats}
use Rattle.sr_base.specs.Limits.{LimitValues, FitLimits}
use Rattle.sr_base.specs.declared.names.Form.{Form}
use Rattle.sr_base.specs.declared.names.Form.TheVariants.{Text, Binary}
use Rattle.sr_model.specs.declared.tokens.Word.TheVariants as word
use Rattle.sr_model.specs.Substitution.{Witness, IsPivot}
use Rattle.sr_model.specs.Meeting.{Group, Step}
use Rattle.sr_model.specs.Judging.{Item, stepped, dropped}
use Rattle.sr_model.specs.Witnesses.{witness_by, parts_of, twice_of}
use Rattle.sr_base.specs.Contents.{Ending, whole}
use Rattle.sr_model.specs.Tokens.{Tokens, finished, ending_at}
use Rattle.sr_model.specs.Words.{said_by}
use Rattle.sr_model.specs.TextTokens.{spelled_from, spelled}
use Rattle.sr_model.specs.BinaryTokens.{number_said, binary_from}
use Rattle.sr_model.specs.Reading.{reads}
use Rattle.sr_model.specs.Dimacs.{Formula, formula_at}
use Rattle.sr_model.specs.Lsr.{item_at}
use Rattle.sr_model.specs.LsrBinary.{binary_item_at, item_tokens, SpellItemsIn}
use Rattle.sr_model.specs.Dsr.{Lemma, Line, lemma_line, deletion_line, line_at, binary_line_at, line_tokens, SpellLines}
use Rattle.sr_model.specs.Writing.{number_bytes, item_text, item_binary, written_items, line_text, line_binary, written_lines, written_formula, selected}

-- limits that a run may have
abbrev pub AreLimits : LimitValues → Type 0
AreLimits lim = FitLimits lim.vars lim.ids lim.cells lim.bytes

-- a literal of one of the first variables
abbrev pub IsLiteral : ℕ → Literal → Type 0
IsLiteral vars l = (0 < variable l) × (variable l ≤ vars)

abbrev pub IsMap : ℕ → Literal × Literal → Type 0
IsMap vars m = IsLiteral vars m.0 × IsLiteral vars m.1

-- the number of a clause
abbrev pub IsNumber : ℕ → ℕ → Type 0
IsNumber ids n = (0 < n) × (n ≤ ids)

pub record IsClause (vars : ℕ) (c : List Literal) : Type 0 where
  pub within : All (IsLiteral vars) c
  pub distinct : NoRepeats c

-- a witness of a clause: it repeats no part, its maps go from variables, and no variable gets two images
pub record IsWitness (vars : ℕ) (c : List Literal) (w : Witness) : Type 0 where
  pub pivot : IsPivot w.pivot c
  pub assigned : All (IsLiteral vars) w.assigned
  pub maps : All (IsMap vars) w.maps
  pub same : witness_by w.pivot w.assigned w.maps ≡ w
  pub once : twice_of (parts_of w.pivot w.assigned w.maps) ≡ None

abbrev pub IsGroup : ℕ → Group → Type 0
IsGroup ids g = IsNumber ids g.0 × All (IsNumber ids) g.1

pub record IsStep (lim : LimitValues) (s : Step) : Type 0 where
  pub id : IsNumber lim.ids s.id
  pub clause : IsClause lim.vars s.clause
  pub witness : (w : Witness) → s.witness ≡ Some w → IsWitness lim.vars s.clause w
  pub prefix : All (IsNumber lim.ids) s.prefix
  pub groups : All (IsGroup lim.ids) s.groups

-- the number of a deletion may be 0
abbrev pub IsItem : LimitValues → Item → Type 0
IsItem lim (stepped s) = IsStep lim s
IsItem lim (dropped id ids) = (id ≤ lim.ids) × All (IsNumber lim.ids) ids

pub record IsLemma (vars : ℕ) (l : Lemma) : Type 0 where
  pub clause : IsClause vars l.clause
  pub witness : (w : Witness) → l.witness ≡ Some w → IsWitness vars l.clause w

abbrev pub IsLine : ℕ → Line → Type 0
IsLine vars (lemma_line l) = IsLemma vars l
IsLine vars (deletion_line c) = IsClause vars c

-- a formula that passes no limit
pub record IsFormula (lim : LimitValues) (f : Formula) : Type 0 where
  pub vars : f.vars ≤ lim.vars
  pub count : length f.clauses < lim.ids
  pub clauses : All (IsClause f.vars) f.clauses

-- a number of 63 bits and a sign
abbrev pub NumbersReadAgain : Type 0
NumbersReadAgain = (x : ℤ) → nat_abs x < 2 ^ 63
    → (said_by (signed_decimal x) ≡ Ok (word.Number x)) × (number_said (number_bytes x) ≡ Some (Ok (word.Number x)))

-- no other bytes that say the number are fewer
abbrev pub NumbersAreShortest : Type 0
NumbersAreShortest = (x : ℤ) (bytes : List ℕ) → All (λ b. b < 256) bytes → number_said bytes ≡ Some (Ok (word.Number x)) → length (number_bytes x) ≤ length bytes

-- a formula that the limit of bytes holds
abbrev pub FormulasReadAgain : Type 0
FormulasReadAgain = (lim : LimitValues) (f : Formula) → AreLimits lim → IsFormula lim f → length (written_formula f) ≤ lim.bytes
    → formula_at lim (spelled lim.bytes (whole (written_formula f))) ≡ reads f (finished (length (written_formula f)))

-- and so is one that has some of its clauses
abbrev pub SelectionsReadAgain : Type 0
SelectionsReadAgain = (lim : LimitValues) (f : Formula) (ids : List ℕ) → AreLimits lim → IsFormula lim f → All (IsNumber (length f.clauses)) ids → length ids < lim.ids
    → length (written_formula (selected f ids)) ≤ lim.bytes → formula_at lim (spelled lim.bytes (whole (written_formula (selected f ids)))) ≡ reads (selected f ids) (finished (length (written_formula (selected f ids))))

-- an item for which there is room, and behind it what follows, at a line's begin
abbrev pub ItemsReadAgain : Type 0
ItemsReadAgain = (lim : LimitValues) (it : Item) (ending : Ending) (before : Option ℕ) (room place : ℕ) (more : List ℕ) → AreLimits lim → IsItem lim it → length (item_text it) ≤ room
    → item_at lim (spelled_from ending before room place (item_text it ++ more))
    ≡ reads (Some it) (spelled_from ending (Some 10) (room - length (item_text it)) (place + length (item_text it)) more)

-- in binary a deletion comes back with the number 0
abbrev pub unnumbered : Item → Item
unnumbered (stepped s) = stepped s
unnumbered (dropped id ids) = dropped 0 ids

abbrev pub BinaryItemsReadAgain : Type 0
BinaryItemsReadAgain = (lim : LimitValues) (it : Item) (ending : Ending) (room place : ℕ) (more : List ℕ) → AreLimits lim → IsItem lim it → length (item_binary it) ≤ room
    → binary_item_at lim (binary_from ending 2 0 room place (item_binary it ++ more))
    ≡ reads (Some (unnumbered it)) (binary_from ending 2 0 (room - length (item_binary it)) (place + length (item_binary it)) more)

abbrev pub LinesReadAgain : Type 0
LinesReadAgain = (lim : LimitValues) (l : Line) (ending : Ending) (before : Option ℕ) (room place : ℕ) (more : List ℕ) → AreLimits lim → IsLine lim.vars l → length (line_text l) ≤ room
    → line_at lim (spelled_from ending before room place (line_text l ++ more))
    ≡ reads (Some l) (spelled_from ending (Some 10) (room - length (line_text l)) (place + length (line_text l)) more)

abbrev pub BinaryLinesReadAgain : Type 0
BinaryLinesReadAgain = (lim : LimitValues) (l : Line) (ending : Ending) (room place : ℕ) (more : List ℕ) → AreLimits lim → IsLine lim.vars l → length (line_binary l) ≤ room
    → binary_line_at lim (binary_from ending 1 0 room place (line_binary l ++ more))
    ≡ reads (Some l) (binary_from ending 1 0 (room - length (line_binary l)) (place + length (line_binary l)) more)

-- so a file that begins with written items is read as these, and where nothing follows there are no others
abbrev pub read_as : Form → Item → Item
read_as Text it = it
read_as Binary it = unnumbered it

abbrev pub ItemFilesReadAgain : Type 0
ItemFilesReadAgain = (form : Form) (lim : LimitValues) (items : List Item) (ending : Ending) (more : List ℕ) → AreLimits lim → All (IsItem lim) items → length (written_items form items) ≤ lim.bytes
    → (rest : Tokens) × SpellItemsIn form lim (item_tokens form lim.bytes (record { bytes = written_items form items ++ more; ending = ending })) (map (read_as form) items) rest × (more ≡ [] → rest ≡ ending_at ending (length (written_items form items)))

abbrev pub LineFilesReadAgain : Type 0
LineFilesReadAgain = (form : Form) (lim : LimitValues) (lines : List Line) (ending : Ending) (more : List ℕ) → AreLimits lim → All (IsLine lim.vars) lines → length (written_lines form lines) ≤ lim.bytes
    → (rest : Tokens) × SpellLines form lim (line_tokens form lim.bytes (record { bytes = written_lines form lines ++ more; ending = ending })) lines rest × (more ≡ [] → rest ≡ ending_at ending (length (written_lines form lines)))
