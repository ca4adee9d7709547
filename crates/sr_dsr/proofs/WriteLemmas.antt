-- Lines by the parts that are written.
use Rattle.std.proofs.Common.{◌≡◌, ◌∙◌, ℕ, sym, ap, refl, true, false, List, [], ◌∷◌, ◌++◌, map, Option, None, append_assoc}
use Rattle.std.specs.Prelude.{codes, Result, Ok, Err, IfOk}
use Rattle.std.proofs.lemmas.List.{append-nil}
use Rattle.sr_base.specs.Literal.{Literal, number}
use Rattle.sr_base.specs.declared.names.Form.{Form}
use Rattle.sr_base.specs.declared.names.Form.TheVariants.{Text, Binary}
use Rattle.sr_model.specs.Dsr.{Lemma, lemma_line, deletion_line}
use Rattle.sr_model.specs.Writing.{spaced, literals_written, written_line}
use Rattle.sr_model.specs.Substitution.{Witness}
use Rattle.sr_lemma.specs.declared.lemma.Lemma as lemma
use Rattle.sr_lemma.specs.declared.lemma.DsrLine.{DsrLine}
use Rattle.sr_lemma.specs.declared.lemma.DsrLine.TheVariants.{Add, Del}
use Rattle.sr_lemma.specs.Lines.{lemma_told, line_of}
use Rattle.sr_scan.specs.Written.{written_numbers, written_end}
use Rattle.sr_scan.proofs.WriteLemmas.{spaced_is}
use Rattle.sr_dsr.specs.Written.{written_start}

-- lemmas and deletions
pub lemma_parts : (f : Form) (l : Lemma) → written_start f false ++ written_numbers f (literals_written l.clause l.witness) ++ written_end f ≡ written_line f (lemma_line l)
lemma_parts Text l = ap (λ x. x ++ codes "0\n") (spaced_is (literals_written l.clause l.witness))
lemma_parts Binary l = refl

pub deletion_parts : (f : Form) (c : List Literal) → written_start f true ++ written_numbers f (literals_written c None) ++ written_end f ≡ written_line f (deletion_line c)
deletion_parts Text c =
    ap (λ x. codes "d " ++ x ++ codes "0\n") (spaced_is (map number (c ++ [])))
    ∙ append_assoc (codes "d ") (spaced (map number (c ++ []))) (codes "0\n")
    ∙ ap (λ x. codes "d " ++ (spaced (map number x) ++ codes "0\n")) (append-nil c)
deletion_parts Binary c = ap (λ x. 100 ∷ (written_numbers Binary (map number x) ++ 0 ∷ [])) (append-nil c)

-- what is made of a line
if_ok : {T E : Type 0} (r : Result T E) (P Q : T → Type 0) → ((v : T) → P v → Q v) → IfOk r P → IfOk r Q
if_ok (Ok v) P Q f p = f v p
if_ok (Err e) P Q f p = tt

pub lemma_bytes : {E : Type 0} (f : Form) (line : DsrLine) (l : lemma.Lemma) (clause : List Literal) (witness : Option Witness) (r : Result (List ℕ) E) → line ≡ Add l → clause ≡ l.clause → witness ≡ l.witness
    → IfOk r (λ bytes. bytes ≡ written_start f false ++ written_numbers f (literals_written clause witness) ++ written_end f) → IfOk r (λ bytes. bytes ≡ written_line f (line_of line))
lemma_bytes f line l clause witness r is c w ok = if_ok r (λ bytes. bytes ≡ written_start f false ++ written_numbers f (literals_written clause witness) ++ written_end f) (λ bytes. bytes ≡ written_line f (line_of line))
    (λ bytes e. e ∙ ap (λ k. written_start f false ++ written_numbers f (literals_written k witness) ++ written_end f) c
    ∙ ap (λ k. written_start f false ++ written_numbers f (literals_written l.clause k) ++ written_end f) w
    ∙ lemma_parts f (lemma_told l) ∙ ap (λ k. written_line f (line_of k)) (sym is)) ok

pub deletion_bytes : {E : Type 0} (f : Form) (line : DsrLine) (c clause : List Literal) (r : Result (List ℕ) E) → line ≡ Del c → clause ≡ c
    → IfOk r (λ bytes. bytes ≡ written_start f true ++ written_numbers f (literals_written clause None) ++ written_end f) → IfOk r (λ bytes. bytes ≡ written_line f (line_of line))
deletion_bytes f line c clause r is e ok = if_ok r (λ bytes. bytes ≡ written_start f true ++ written_numbers f (literals_written clause None) ++ written_end f) (λ bytes. bytes ≡ written_line f (line_of line))
    (λ bytes b. b ∙ ap (λ k. written_start f true ++ written_numbers f (literals_written k None) ++ written_end f) e ∙ deletion_parts f c ∙ ap (λ k. written_line f (line_of k)) (sym is)) ok
