-- What reading a line gives.
use Rattle.std.specs.Prelude.{ℕ, ◌≡◌, ◌-◌, ◌<◌, List, [], Option, Some, None, Result, Ok, Err}
use Rattle.sr_base.specs.Contents.{Contents}
use Rattle.sr_base.specs.Literal.{Literal, distinct}
use Rattle.sr_base.specs.Limits.{LimitValues}
use Rattle.sr_base.specs.declared.names.Form.{Form}
use Rattle.sr_base.specs.declared.names.LimitKind.TheVariants as limit
use Rattle.sr_base.specs.declared.names.InputError.{InputError}
use Rattle.sr_base.specs.declared.names.InputError.TheVariants.{Text, Limit, Source, NoMemory}
use Rattle.sr_desk.specs.Reader.{Reader}
use Rattle.sr_model.specs.declared.tokens.Token.{Token}
use Rattle.sr_model.specs.Tokens.{Tokens, next}
use Rattle.sr_model.specs.BinaryTokens.{open_after}
use Rattle.sr_model.specs.Reading.{Read, reads, misspells}
use Rattle.sr_model.specs.Lsr.{NumbersTo0, numbers_after}
use Rattle.sr_model.specs.Witnesses.{fault_of_literals}
use Rattle.sr_model.specs.Dsr.{MaybeLine, deletion_line, lemma_of, judged_lemma, with_lemma, with_deletion, line_in}
use Rattle.sr_scan.specs.Left.{tokens_left, text_left, front_word, Refuses}
use Rattle.sr_lemma.specs.declared.lemma.DsrLine.{DsrLine}
use Rattle.sr_lemma.specs.Lines.{line_of}
use Rattle.sr_dsr.specs.declared.lines.LineFrame.{LineFrame}
use Rattle.sr_dsr.specs.declared.lines.LineKind.{LineKind}
use Rattle.sr_dsr.specs.declared.lines.LineKind.TheVariants.{Lemma, Deletion}

-- what the numbers of a line make
abbrev pub with_kind : LineKind → Read NumbersTo0 → Read MaybeLine
with_kind Lemma n = with_lemma n
with_kind Deletion n = with_deletion n

abbrev pub framed_as : LineKind → ℕ → List Literal → Tokens → Read MaybeLine
framed_as Lemma end lits rest = judged_lemma (fault_of_literals lits) end (lemma_of lits) rest
framed_as Deletion end lits rest = reads (Some (deletion_line (distinct lits))) rest

-- the line of a frame and its literals, with what is left behind it, or the fault of the whole
abbrev pub framed : LineFrame → List Literal → Tokens → Read MaybeLine
framed f lits rest = framed_as f.kind f.end lits rest

-- what was read is made of these literals and what is left
abbrev pub GivesFrom : Read MaybeLine → Tokens → List Literal → Result LineFrame InputError → Type 0
GivesFrom read left lits (Ok f) = read ≡ framed f lits left
GivesFrom read left lits (Err e) = Refuses read e

-- the same, or nothing
abbrev pub GivesSomeFrom : Read MaybeLine → Tokens → List Literal → Result (Option LineFrame) InputError → Type 0
GivesSomeFrom read left lits (Ok (Some f)) = read ≡ framed f lits left
GivesSomeFrom read left lits (Ok None) = read ≡ reads None left
GivesSomeFrom read left lits (Err e) = Refuses read e

-- a lemma of a text, behind the first token of its literals
abbrev pub ReadsTextLemma : LimitValues → Token → Reader → Reader → Contents → List Literal → Result LineFrame InputError → Type 0
ReadsTextLemma lim t old new c lits result = GivesFrom (with_lemma (numbers_after limit.Vars lim.vars [] (next t (text_left old c)))) (text_left new c) lits result

-- a lemma or a deletion, behind what tells it
abbrev pub ReadsBehind : Form → LineKind → LimitValues → Reader → Reader → Contents → List Literal → Result LineFrame InputError → Type 0
ReadsBehind form kind lim old new c lits result =
    GivesFrom (with_kind kind (numbers_after limit.Vars lim.vars [] (tokens_left form 1 1 old c))) (tokens_left form 1 0 new c) lits result

-- the line that a token begins
abbrev pub ReadsBegun : Form → LimitValues → Token → Reader → Reader → Contents → List Literal → Result LineFrame InputError → Type 0
ReadsBegun form lim t old new c lits result =
    GivesFrom (line_in form lim (front_word t.place t.word (tokens_left form 1 (open_after 1 0 t.word) old c))) (tokens_left form 1 0 new c) lits result

-- the line that stands next, or nothing
abbrev pub ReadsLine : Form → LimitValues → Reader → Reader → Contents → List Literal → Result (Option LineFrame) InputError → Type 0
ReadsLine form lim old new c lits result = GivesSomeFrom (line_in form lim (tokens_left form 1 0 old c)) (tokens_left form 1 0 new c) lits result

-- a line that is made of its frame and its literals
abbrev pub MakesLine : LineFrame → List Literal → Result DsrLine InputError → Type 0
MakesLine f lits (Ok l) = (rest : Tokens) → framed f lits rest ≡ reads (Some (line_of l)) rest
MakesLine f lits (Err (Text kind place)) = (rest : Tokens) → framed f lits rest ≡ misspells kind place
MakesLine f lits (Err (Limit kind)) = ⊥
MakesLine f lits (Err Source) = ⊥
MakesLine f lits (Err NoMemory) = Unit {0}

-- the lines as the definitions know them
abbrev pub line_told : Result (Option DsrLine) InputError → Result MaybeLine InputError
line_told (Ok (Some l)) = Ok (Some (line_of l))
line_told (Ok None) = Ok None
line_told (Err e) = Err e

-- less room is left below the limit of bytes
abbrev pub TakesSome : Reader → Reader → Type 0
TakesSome old new = new.limit - new.taken < old.limit - old.taken
