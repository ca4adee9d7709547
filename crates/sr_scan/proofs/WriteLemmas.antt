-- What is written, piece after piece.
use Rattle.std.proofs.Common.{◌≡◌, ◌∙◌, ℕ, ◌+◌, ◌<◌, refl, sym, ap, List, [], ◌∷◌, ◌++◌, length, take, map, get_or, ℤ, append_assoc}
use Rattle.std.specs.Fmt.{signed_decimal}
use Rattle.std.proofs.lemmas.List.{take_more}
use Rattle.std.proofs.Math.Seq.{take-append_seam}
use Rattle.sr_base.specs.Literal.{Literal, number}
use Rattle.sr_base.specs.declared.names.Form.{Form}
use Rattle.sr_base.specs.declared.names.Form.TheVariants.{Text}
use Rattle.sr_model.specs.Writing.{spaced}
use Rattle.sr_scan.specs.Written.{written_number, written_numbers, written_literals}

pub numbers_append : (form : Form) (xs ys : List ℤ) → written_numbers form (xs ++ ys) ≡ written_numbers form xs ++ written_numbers form ys
numbers_append form [] ys = refl
numbers_append form (x ∷ xs) ys = ap (λ l. written_number form x ++ l) (numbers_append form xs ys) ∙ sym (append_assoc (written_number form x) (written_numbers form xs) (written_numbers form ys))

map_append : (xs ys : List Literal) → map number (xs ++ ys) ≡ map number xs ++ map number ys
map_append [] ys = refl
map_append (x ∷ xs) ys = ap (λ l. number x ∷ l) (map_append xs ys)

pub literals_written_append : (form : Form) (xs ys : List Literal) → written_literals form (xs ++ ys) ≡ written_literals form xs ++ written_literals form ys
literals_written_append form xs ys = ap (written_numbers form) (map_append xs ys) ∙ numbers_append form (map number xs) (map number ys)

-- one more literal
pub literals_step : (form : Form) (old out new : List ℕ) (lits : List Literal) (i : ℕ) (l : Literal) → i < length lits → l ≡ get_or lits i l → out ≡ old ++ written_literals form (take i lits)
    → new ≡ out ++ written_literals form (l ∷ []) → new ≡ old ++ written_literals form (take (i + 1) lits)
literals_step form old out new lits i l within is before after =
    let more : take (i + 1) lits ≡ take i lits ++ l ∷ [] = take_more lits i l within ∙ ap (λ x. take i lits ++ x ∷ []) (sym is) in
    after ∙ ap (λ o. o ++ written_literals form (l ∷ [])) before
    ∙ append_assoc old (written_literals form (take i lits)) (written_literals form (l ∷ []))
    ∙ ap (λ o. old ++ o) (sym (literals_written_append form (take i lits) (l ∷ [])) ∙ ap (written_literals form) (sym more))

-- what was there before
pub cut_back : (old more out : List ℕ) (n : ℕ) → out ≡ old ++ more → n ≡ length old → take n out ≡ old
cut_back old more out n e k = ap (λ o. take n o) e ∙ ap (λ (m : ℕ). take m (old ++ more)) k ∙ take-append_seam old more

-- in text, numbers with a space after each
pub spaced_is : (xs : List ℤ) → written_numbers Text xs ≡ spaced xs
spaced_is [] = refl
spaced_is (x ∷ xs) = append_assoc (signed_decimal x) (32 ∷ []) (written_numbers Text xs) ∙ ap (λ l. signed_decimal x ++ 32 ∷ l) (spaced_is xs)
