-- Lines of a proof by lemmas: DRAT's lemmas and deletions, with witnesses (Buss and Thapen 2019; Codel, Avigad and Heule 2024).
use Rattle.std.specs.Prelude.{ℕ, ◌≡◌, List, [], ◌∷◌, map, Option, Some, None}
use Rattle.sr_base.specs.Literal.{Literal, literal_of, distinct}
use Rattle.sr_base.specs.Limits.{LimitValues}
use Rattle.sr_base.specs.Contents.{Contents}
use Rattle.sr_base.specs.declared.names.Form.{Form}
use Rattle.sr_base.specs.declared.names.Form.TheVariants.{Text, Binary}
use Rattle.sr_base.specs.declared.names.TextKind.{TextKind}
use Rattle.sr_base.specs.declared.names.TextKind.TheVariants.{BadWord}
use Rattle.sr_base.specs.declared.names.LimitKind.TheVariants as limit
use Rattle.sr_model.specs.declared.tokens.Word.{Word}
use Rattle.sr_model.specs.declared.tokens.Word.TheVariants as word
use Rattle.sr_model.specs.Substitution.{Witness, IsPivot}
use Rattle.sr_model.specs.Tokens.{Tokens, finished, stopped, over, lost, next}
use Rattle.sr_model.specs.Reading.{Read, reads, misspells, passes, fails, then_reads}
use Rattle.sr_model.specs.TextTokens.{spelled}
use Rattle.sr_model.specs.BinaryTokens.{spelled_binary}
use Rattle.sr_model.specs.Witnesses.{clause_of_literals, witness_of_literals, fault_of_literals}
use Rattle.sr_model.specs.Lsr.{NumbersTo0, numbers_after}

-- a clause that is added, and the substitution that shows that it may be, where one is written
pub record Lemma : Type 0 where
  pub clause : List Literal
  pub witness : Option Witness

-- a line of a proof: a lemma, or the deletion of a clause
pub data Line : Type 0 where
  lemma_line : Lemma → Line
  deletion_line : List Literal → Line

abbrev pub lemma_of : List Literal → Lemma
lemma_of lits = record { clause = clause_of_literals lits; witness = witness_of_literals lits }

-- a line at the front, or none where the file ends
abbrev pub MaybeLine : Type 0
MaybeLine = Option Line

-- a fault of the whole lemma is found at the `0` that ends it
abbrev pub judged_lemma : Option TextKind → ℕ → Lemma → Tokens → Read MaybeLine
judged_lemma None place lemma rest = reads (Some (lemma_line lemma)) rest
judged_lemma (Some kind) place lemma rest = misspells kind place

abbrev pub with_lemma : Read NumbersTo0 → Read MaybeLine
with_lemma read = then_reads read (λ lits rest. judged_lemma (fault_of_literals (map literal_of lits.0)) lits.1 (lemma_of (map literal_of lits.0)) rest)

-- a deletion names a set of literals
abbrev pub with_deletion : Read NumbersTo0 → Read MaybeLine
with_deletion read = then_reads read (λ lits rest. reads (Some (deletion_line (distinct (map literal_of lits.0)))) rest)

-- in text a lemma begins with its first number, and a deletion with `d`
abbrev pub by_first : LimitValues → Word → ℕ → Tokens → Tokens → Read MaybeLine
by_first lim (word.Number x) place rest whole = with_lemma (numbers_after limit.Vars lim.vars [] whole)
by_first lim word.Del place rest whole = with_deletion (numbers_after limit.Vars lim.vars [] rest)
by_first lim w place rest whole = misspells BadWord place

-- the line at the front of the tokens of a text
unfoldable pub line_at : LimitValues → Tokens → Read MaybeLine
line_at lim (next t rest) = by_first lim t.word t.place rest (next t rest)
line_at lim (finished place) = reads None (finished place)
line_at lim (stopped kind place) = misspells kind place
line_at lim over = passes limit.Bytes
line_at lim lost = fails

-- in a binary file a byte begins either
abbrev pub by_byte : LimitValues → Word → ℕ → Tokens → Read MaybeLine
by_byte lim word.Add place rest = with_lemma (numbers_after limit.Vars lim.vars [] rest)
by_byte lim word.Del place rest = with_deletion (numbers_after limit.Vars lim.vars [] rest)
by_byte lim w place rest = misspells BadWord place

-- the line at the front of the tokens of a binary file
unfoldable pub binary_line_at : LimitValues → Tokens → Read MaybeLine
binary_line_at lim (next t rest) = by_byte lim t.word t.place rest
binary_line_at lim (finished place) = reads None (finished place)
binary_line_at lim (stopped kind place) = misspells kind place
binary_line_at lim over = passes limit.Bytes
binary_line_at lim lost = fails

abbrev pub line_in : Form → LimitValues → Tokens → Read MaybeLine
line_in Text lim ts = line_at lim ts
line_in Binary lim ts = binary_line_at lim ts

-- the tokens of a whole file of lines, of which so many bytes may be read; in a binary one a lemma is one list
abbrev pub line_tokens : Form → ℕ → Contents → Tokens
line_tokens Text limit c = spelled limit c
line_tokens Binary limit c = spelled_binary 1 limit c

-- the tokens spell these lines one after another, and this is left
abbrev pub SpellLines : Form → LimitValues → Tokens → List Line → Tokens → Type 0
SpellLines form lim ts [] rest = ts ≡ rest
SpellLines form lim ts (l ∷ ls) rest = (mid : Tokens) × (line_in form lim ts ≡ reads (Some l) mid) × SpellLines form lim mid ls rest

-- a written witness has the clause's first literal as its pivot
abbrev pub LineHasPivot : Line → Type 0
LineHasPivot (lemma_line l) = (w : Witness) → l.witness ≡ Some w → IsPivot w.pivot l.clause
LineHasPivot (deletion_line c) = Unit {0}

-- what is read has it
abbrev pub ReadLinesHavePivots : Type 0
ReadLinesHavePivots = (form : Form) (lim : LimitValues) (ts rest : Tokens) (l : Line) → line_in form lim ts ≡ reads (Some l) rest → LineHasPivot l
