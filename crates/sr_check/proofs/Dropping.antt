-- Lemmas on dropping numbers.
use Rattle.std.proofs.Common.{◌≡◌, ◌<◌, ◌+◌, ℕ, List, [], ◌∷◌, ◌++◌, refl, sym, ◌∙◌, ap, arith, length, get_or, take}
use Rattle.std.proofs.lemmas.List.{take_more}
use Rattle.std.proofs.lemmas.Bool.Decides.{nat_tests}
use Rattle.sr_table.proofs.Numbering.{holds_push}
use Rattle.sr_model.specs.Chain.{Numbered}
use Rattle.sr_model.specs.Judging.{without}

pub without_push : (ids : List ℕ) (n : ℕ) (live : Numbered) → without (ids ++ n ∷ []) live ≡ without (n ∷ []) (without ids live)
without_push ids n [] = refl
without_push ids n (e ∷ es) = grind (arith, nat_tests, holds_push e.0 n ids, without_push ids n es)

pub without_none : (live : Numbered) → live ≡ without [] live
without_none [] = refl
without_none (e ∷ es) = ap (λ x. e ∷ x) (without_none es)

-- one more number is dropped
pub without_more : (ids : List ℕ) (i n : ℕ) (old now next : Numbered) → i < length ids → n ≡ get_or ids i 0 → now ≡ without (take i ids) old → next ≡ without (n ∷ []) now → next ≡ without (take (i + 1) ids) old
without_more ids i n old now next h is inv e =
    let more : take (i + 1) ids ≡ take i ids ++ n ∷ [] = take_more ids i 0 h ∙ ap (λ x. take i ids ++ x ∷ []) (sym is) in
    e ∙ ap (without (n ∷ [])) inv ∙ sym (without_push (take i ids) n old) ∙ ap (λ x. without x old) (sym more)
