-- What lemmas and lines of a program stand for.
use Rattle.std.specs.Prelude.{ℕ, ◌≡◌, List, Some, None, Result, Ok, Err}
use Rattle.sr_base.specs.Literal.{Literal}
use Rattle.sr_model.specs.Dsr as model
use Rattle.sr_model.specs.Dsr.{Line, lemma_line, deletion_line, lemma_of}
use Rattle.sr_model.specs.Witnesses.{fault_of_literals}
use Rattle.sr_base.specs.declared.names.InputError.{InputError}
use Rattle.sr_base.specs.declared.names.InputError.TheVariants.{Text, Limit, Source, NoMemory}
use Rattle.sr_lemma.specs.declared.lemma.Lemma.{Lemma}
use Rattle.sr_lemma.specs.declared.lemma.DsrLine.{DsrLine}
use Rattle.sr_lemma.specs.declared.lemma.DsrLine.TheVariants.{Add, Del}

abbrev pub lemma_told : Lemma → model.Lemma
lemma_told l = record { clause = l.clause; witness = l.witness }

abbrev pub line_of : DsrLine → Line
line_of (Add l) = lemma_line (lemma_told l)
line_of (Del c) = deletion_line c

-- the clause that a line adds or deletes
abbrev pub clause_told : Line → List Literal
clause_told (lemma_line l) = l.clause
clause_told (deletion_line c) = c

-- the lemma of its literals, of which a `0` at this place is the end
abbrev pub GivesLemma : List Literal → ℕ → Result Lemma InputError → Type 0
GivesLemma lits end (Ok l) = (fault_of_literals lits ≡ None) × (lemma_told l ≡ lemma_of lits)
GivesLemma lits end (Err (Text kind place)) = (fault_of_literals lits ≡ Some kind) × (place ≡ end)
GivesLemma lits end (Err (Limit kind)) = ⊥
GivesLemma lits end (Err Source) = ⊥
GivesLemma lits end (Err NoMemory) = Unit {0}
