-- Frames, of the literals that were read.
use Rattle.std.proofs.Common.{◌≡◌, ◌∙◌, ℕ, sym, ap, subst, List, map, Ok, Err, Some}
use Rattle.std.specs.Prelude.{Result}
use Rattle.sr_base.specs.Literal.{Literal, number, literal_of, distinct}
use Rattle.sr_base.specs.declared.names.InputError.{InputError}
use Rattle.sr_base.specs.declared.names.InputError.TheVariants.{Text, Limit, Source, NoMemory}
use Rattle.sr_model.specs.Tokens.{Tokens}
use Rattle.sr_model.specs.Witnesses.{fault_of_literals}
use Rattle.sr_model.specs.Reading.{Read, reads}
use Rattle.sr_model.specs.Lsr.{NumbersTo0}
use Rattle.sr_model.specs.Dsr.{MaybeLine, deletion_line, lemma_of, judged_lemma, with_lemma, with_deletion}
use Rattle.sr_scan.specs.Left.{Refuses}
use Rattle.sr_dsr.specs.declared.lines.LineFrame.{LineFrame}
use Rattle.sr_dsr.specs.declared.lines.LineKind.{LineKind}
use Rattle.sr_dsr.specs.declared.lines.LineKind.TheVariants.{Lemma, Deletion}
use Rattle.sr_dsr.specs.Gives.{with_kind, framed_as, framed, GivesFrom, MakesLine}

-- a fault in the literals of a line, however their numbers are read
pub frame_stops : (kind : LineKind) (read : ℕ → Read NumbersTo0) (bound vars : ℕ) (e : InputError) → bound ≡ vars → Refuses (read bound) e → Refuses (with_kind kind (read vars)) e
frame_stops kind read bound vars e b r = at kind e (subst (λ (n : ℕ). Refuses (read n) e) b r)
  where
    at : (kind : LineKind) (e : InputError) → Refuses (read vars) e → Refuses (with_kind kind (read vars)) e
    at Lemma (Text fault place) r = ap with_lemma r
    at Deletion (Text fault place) r = ap with_deletion r
    at Lemma (Limit limit) r = ap with_lemma r
    at Deletion (Limit limit) r = ap with_deletion r
    at Lemma Source r = ap with_lemma r
    at Deletion Source r = ap with_deletion r
    at kind NoMemory r = tt

-- literals, named by their numbers
framed_named : (kind : LineKind) (lits : List Literal) (end : ℕ) (rest : Tokens) → map literal_of (map number lits) ≡ lits → with_kind kind (reads (map number lits, end) rest) ≡ framed_as kind end lits rest
framed_named Lemma lits end rest named = ap (λ ls. judged_lemma (fault_of_literals ls) end (lemma_of ls) rest) named
framed_named Deletion lits end rest named = ap (λ ls. reads (Some (deletion_line (distinct ls))) rest) named

-- a frame of literals that were read
pub frame_read : (kind : LineKind) (read : ℕ → Read NumbersTo0) (bound vars : ℕ) (left : Tokens) (lits : List Literal) (end : ℕ) → bound ≡ vars → map literal_of (map number lits) ≡ lits
    → read bound ≡ reads (map number lits, end) left → with_kind kind (read vars) ≡ framed_as kind end lits left
frame_read kind read bound vars left lits end b named given = ap (λ (n : ℕ). with_kind kind (read n)) (sym b) ∙ ap (with_kind kind) given ∙ framed_named kind lits end left named

-- what is read is the same
pub gives_as : (m n : Read MaybeLine) (left : Tokens) (lits : List Literal) (result : Result LineFrame InputError) → m ≡ n → GivesFrom n left lits result → GivesFrom m left lits result
gives_as m n left lits (Ok f) same given = same ∙ given
gives_as m n left lits (Err e) same given = subst (λ x. Refuses x e) (sym same) given

pub refuses_same : (e : InputError) (m n : Read MaybeLine) → m ≡ n → Refuses n e → Refuses m e
refuses_same e m n same r = subst (λ x. Refuses x e) (sym same) r

-- the line isn't made of what was read
pub made_refused : (f : LineFrame) (lits : List Literal) (left : Tokens) (e : InputError) → MakesLine f lits (Err e) → Refuses (framed f lits left) e
made_refused f lits left (Text kind place) h = h left
made_refused f lits left (Limit kind) h = absurd h
made_refused f lits left Source h = absurd h
made_refused f lits left NoMemory h = tt
