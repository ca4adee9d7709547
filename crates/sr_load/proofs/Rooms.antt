-- Literals whose variables have room, one after another.
use Rattle.std.proofs.Common.{◌≡◌, ◌<◌, ◌≤◌, ◌+◌, ℕ, zero, suc, true, List, [], ◌∷◌, ◌++◌, sym, ◌∙◌, ap, subst, arith, length, get_or, take}
use Rattle.std.proofs.lemmas.List.{take_more}
use Rattle.sr_base.specs.Literal.{Literal, variable, same, has}
use Rattle.sr_base.proofs.Literals.{same_tells, has_append}
use Rattle.sr_model.proofs.Soundness.{by_test}
use Rattle.sr_watch.specs.State.{AreWithin}

pub room_more : (v w : ℕ) (ls : List Literal) (i : ℕ) (l : Literal) → i < length ls → l ≡ get_or ls i l → AreWithin v (take i ls) → v ≤ w → variable l ≤ w → AreWithin w (take (i + 1) ls)
room_more v w ls i l lt is within le here k h =
    let more : take (i + 1) ls ≡ take i ls ++ l ∷ [] = take_more ls i l lt ∙ ap (λ x. take i ls ++ x ∷ []) (sym is) in
    let g : has k (take i ls ++ l ∷ []) ≡ true = ap (has k) (sym more) ∙ h in
    by_test (same l k)
    (λ y. let e : l ≡ k = grind (arith, same_tells l k) in subst (λ j. variable j ≤ w) e here)
    (λ y. let r : variable k ≤ v = within k (grind (arith, has_append k (take i ls) (l ∷ []))) in omega arith)

pub in_room : (v : ℕ) (ls : List Literal) (i : ℕ) (l : Literal) → i < length ls → l ≡ get_or ls i l → AreWithin v ls → variable l ≤ v
in_room v [] i l lt is within = absurd (omega arith)
in_room v (k ∷ ls) zero l lt is within = within l (grind (arith, same_tells k l))
in_room v (k ∷ ls) (suc i) l lt is within = in_room v ls i l (omega arith) is (λ j h. within j (grind arith))
