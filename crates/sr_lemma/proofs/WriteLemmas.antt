-- Maps are written, one after another.
use Rattle.std.proofs.Common.{◌≡◌, ◌∙◌, ℕ, ◌+◌, ◌<◌, refl, sym, ap, List, [], ◌∷◌, ◌++◌, length, take, get_or, append_assoc}
use Rattle.std.proofs.lemmas.List.{take_more}
use Rattle.sr_base.specs.Literal.{Literal}
use Rattle.sr_base.specs.declared.names.Form.{Form}
use Rattle.sr_model.specs.Writing.{flat}
use Rattle.sr_scan.specs.Written.{written_literals}
use Rattle.sr_scan.proofs.WriteLemmas.{literals_written_append}

flat_append : (xs ys : List (Literal × Literal)) → flat (xs ++ ys) ≡ flat xs ++ flat ys
flat_append [] ys = refl
flat_append (m ∷ xs) ys = ap (λ l. m.0 ∷ m.1 ∷ l) (flat_append xs ys)

-- one more map
pub pairs_step : (form : Form) (old out new : List ℕ) (maps : List (Literal × Literal)) (i : ℕ) (m : Literal × Literal) → i < length maps → m ≡ get_or maps i m → out ≡ old ++ written_literals form (flat (take i maps))
    → new ≡ out ++ written_literals form (m.0 ∷ m.1 ∷ []) → new ≡ old ++ written_literals form (flat (take (i + 1) maps))
pairs_step form old out new maps i m within is before after =
    let more : take (i + 1) maps ≡ take i maps ++ m ∷ [] = take_more maps i m within ∙ ap (λ x. take i maps ++ x ∷ []) (sym is) in
    let all : flat (take (i + 1) maps) ≡ flat (take i maps) ++ m.0 ∷ m.1 ∷ [] = ap flat more ∙ flat_append (take i maps) (m ∷ []) in
    after ∙ ap (λ o. o ++ written_literals form (m.0 ∷ m.1 ∷ [])) before
    ∙ append_assoc old (written_literals form (flat (take i maps))) (written_literals form (m.0 ∷ m.1 ∷ []))
    ∙ ap (λ o. old ++ o) (sym (literals_written_append form (flat (take i maps)) (m.0 ∷ m.1 ∷ [])) ∙ ap (written_literals form) (sym all))
