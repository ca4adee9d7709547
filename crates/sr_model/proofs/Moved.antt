-- A redundant clause keeps satisfiability: an assignment that doesn't satisfy it is moved by the substitution.
use Rattle.std.proofs.Common.{◌≡◌, ◌⊎◌, inl, inr, ℕ, Bool, true, false, not, ◌||◌, ◌&&◌, List, [], ◌∷◌, ◌++◌, refl, sym, ◌∙◌, ap, arith}
use Rattle.std.specs.Prelude.{filter}
use Rattle.std.specs.List.{list_any}
use Rattle.std.proofs.lemmas.Bool.Decides.{nat_tests}
use Rattle.sr_base.specs.Literal.{Literal, plus, minus, complement, compl, same, has, distinct}
use Rattle.sr_base.proofs.Literals.{same_tells, has_filter}
use Rattle.sr_model.specs.declared.images.Image.{Image}
use Rattle.sr_model.specs.declared.images.Image.TheVariants.{Yes, No, To}
use Rattle.sr_model.specs.Assignment.{holds_number, makes_true, satisfies, satisfies_all, Unsat}
use Rattle.sr_model.specs.Refutation.{Refutes}
use Rattle.sr_model.specs.Substitution.{Substitution, image_of_variable, opposite, image, is_image, is_yes, image_literals, has_pair, left, is_touched, reduction}
use Rattle.sr_model.specs.Redundancy.{Rup, MakesFirstTrue, IsRefutedLeft, AreRefuted, Sr, image_true, listed, moved}
use Rattle.sr_model.proofs.Soundness.{by_test, complement_is_other, true_literal, refutes_sound, false_clause, refuted_holds, all_true-append}
use Rattle.sr_model.proofs.Chains.{complement_tells}

pub holds_kept : (p : ℕ → Bool) (v : ℕ) (vs : List ℕ) → holds_number v (filter p vs) ≡ (p v && holds_number v vs)
holds_kept p v [] = grind arith
holds_kept p v (w ∷ vs) = grind (arith, nat_tests, holds_kept p v vs)

pub holds_append : (v : ℕ) (xs ys : List ℕ) → holds_number v (xs ++ ys) ≡ (holds_number v xs || holds_number v ys)
holds_append v [] ys = refl
holds_append v (x ∷ xs) ys = grind (arith, holds_append v xs ys)

-- a variable that isn't listed keeps itself
pub unlisted : (w : Substitution) (v : ℕ) → holds_number v (listed w) ≡ false → image_of_variable w v ≡ To (plus v)
unlisted [] v h = refl
unlisted (p ∷ ps) v h = grind (arith, unlisted ps v)

-- the moved assignment gives a variable the value of its image
pub moved_variable : (w : Substitution) (t : List ℕ) (v : ℕ) → holds_number v (moved w t) ≡ image_true t (image_of_variable w v)
moved_variable w t v = holds_kept (λ v. image_true t (image_of_variable w v)) v (listed w ++ t) ∙ by_test (holds_number v (listed w))
    (λ e. grind (arith, holds_append v (listed w) t))
    (λ e. let u : image_true t (image_of_variable w v) ≡ holds_number v t = ap (image_true t) (unlisted w v e) in grind (arith, holds_append v (listed w) t))

pub opposite_true : (t : List ℕ) (i : Image) → image_true t (opposite i) ≡ not (image_true t i)
opposite_true t Yes = refl
opposite_true t No = refl
opposite_true t (To l) = complement_is_other t l

pub moved_literal : (w : Substitution) (t : List ℕ) (l : Literal) → makes_true (moved w t) l ≡ image_true t (image w l)
moved_literal w t (plus v) = moved_variable w t v
moved_literal w t (minus v) = ap not (moved_variable w t v) ∙ sym (opposite_true t (image_of_variable w v))

pub untouched_same : (w : Substitution) (t : List ℕ) (d : List Literal) → is_touched w d ≡ false → satisfies (moved w t) d ≡ satisfies t d
untouched_same w t [] h = refl
untouched_same w t (l ∷ d) h =
    let self : image_true t (image w l) ≡ makes_true t l = at (image w l) (grind arith) in
    grind (arith, moved_literal w t l, untouched_same w t d)
  where
    at : (i : Image) → is_image i l ≡ true → image_true t i ≡ makes_true t l
    at Yes e = absurd cc
    at No e = absurd cc
    at (To k) e = let is : k ≡ l = grind (arith, same_tells k l) in ap (makes_true t) is

pub yes_satisfies : (w : Substitution) (t : List ℕ) (d : List Literal) → list_any (λ l. is_yes (image w l)) d ≡ true → satisfies (moved w t) d ≡ true
yes_satisfies w t [] h = absurd cc
yes_satisfies w t (l ∷ d) h = by_test (is_yes (image w l))
    (λ e. let m : image_true t (image w l) ≡ true = at (image w l) e in grind (arith, moved_literal w t l))
    (λ e. grind (arith, yes_satisfies w t d))
  where
    at : (i : Image) → is_yes i ≡ true → image_true t i ≡ true
    at Yes e = refl
    at No e = absurd cc
    at (To k) e = absurd cc

-- an image that is a true literal
pub image_satisfies : (w : Substitution) (t : List ℕ) (d : List Literal) (k : Literal) → has k (image_literals w d) ≡ true → makes_true t k ≡ true → satisfies (moved w t) d ≡ true
image_satisfies w t [] k h m = absurd cc
image_satisfies w t (l ∷ d) k h m = at (image w l) refl (image_satisfies w t d k)
  where
    at : (i : Image) → image w l ≡ i → (has k (image_literals w d) ≡ true → makes_true t k ≡ true → satisfies (moved w t) d ≡ true) → satisfies (moved w t) (l ∷ d) ≡ true
    at Yes e r = let x : image_true t (image w l) ≡ true = ap (image_true t) e in grind (arith, moved_literal w t l)
    at No e r = let g : has k (image_literals w d) ≡ true = rw e at h in grind (arith, r g m)
    at (To j) e r =
        let g : (same j k || has k (image_literals w d)) ≡ true = rw e at h in
        by_test (same j k)
        (λ x. let is : j ≡ k = grind (arith, same_tells j k) in
        let y : image_true t (image w l) ≡ true = ap (image_true t) e ∙ ap (makes_true t) is ∙ m in grind (arith, moved_literal w t l))
        (λ x. grind (arith, r (grind arith) m))

pub pair_satisfies : (w : Substitution) (t : List ℕ) (d : List Literal) → has_pair (image_literals w d) ≡ true → satisfies (moved w t) d ≡ true
pair_satisfies w t d h =
    let p = complement_tells (image_literals w d) (image_literals w d) h in
    by_test (makes_true t p.0)
    (λ e. image_satisfies w t d p.0 p.1 e)
    (λ e. image_satisfies w t d (complement p.0) p.2 (complement_is_other t p.0 ∙ ap not e))

pub has_distinct : (k : Literal) (ls : List Literal) → has k (distinct ls) ≡ has k ls
has_distinct k [] = refl
has_distinct k (l ∷ ls) = by_test (same l k)
    (λ e. grind arith)
    (λ e. grind (arith, has_filter l k (distinct ls) e, has_distinct k ls))

pub left_satisfies : (s : List (List Literal)) (c d : List Literal) (w : Substitution) (t : List ℕ) → satisfies_all t s ≡ true → satisfies t c ≡ false
    → Refutes s (compl c ++ compl (distinct (image_literals w d))) → satisfies (moved w t) d ≡ true
left_satisfies s c d w t sat out r =
    let ls : List Literal = distinct (image_literals w d) in
    by_test (satisfies t ls)
    (λ e. let k = true_literal t ls e in image_satisfies w t d k.0 (sym (has_distinct k.0 (image_literals w d)) ∙ k.1) k.2)
    (λ e. absurd (refutes_sound s (compl c ++ compl ls) r t sat (grind (arith, all_true-append t (compl c) (compl ls), false_clause t c out, false_clause t ls e))))

pub clause_kept : (s : List (List Literal)) (c d : List Literal) (w : Substitution) (t : List ℕ) → satisfies_all t s ≡ true → satisfies t c ≡ false
    → satisfies t d ≡ true → IsRefutedLeft s c (reduction w d) → satisfies (moved w t) d ≡ true
clause_kept s c d w t sat out before r = by_test (is_touched w d)
    (λ e. by_test (list_any (λ l. is_yes (image w l)) d)
    (λ y. yes_satisfies w t d y)
    (λ y. by_test (has_pair (image_literals w d))
    (λ p. pair_satisfies w t d p)
    (λ p. let g : IsRefutedLeft s c (left (distinct (image_literals w d))) = rw (e, y, p) at r in left_satisfies s c d w t sat out g)))
    (λ e. untouched_same w t d e ∙ before)

pub clauses_kept : (s ds : List (List Literal)) (c : List Literal) (w : Substitution) (t : List ℕ) → satisfies_all t s ≡ true → satisfies t c ≡ false
    → satisfies_all t ds ≡ true → AreRefuted s ds c w → satisfies_all (moved w t) ds ≡ true
clauses_kept s [] c w t sat out before r = refl
clauses_kept s (d ∷ ds) c w t sat out before r = grind (arith, clause_kept s c d w t sat out (grind arith) r.0, clauses_kept s ds c w t sat out (grind arith) r.1)

pub first_true : (c : List Literal) (w : Substitution) (t : List ℕ) → MakesFirstTrue w c → satisfies (moved w t) c ≡ true
first_true [] w t f = elim f [ ]
first_true (l ∷ ls) w t f = let e : image_true t (image w l) ≡ true = ap (image_true t) f in grind (arith, moved_literal w t l)

pub keeps : (s : List (List Literal)) (c : List Literal) (w : Substitution) → Sr s s c w → (t : List ℕ) → satisfies_all t s ≡ true → satisfies t c ≡ false
    → (satisfies_all (moved w t) s ≡ true) × (satisfies (moved w t) c ≡ true)
keeps s c w r t sat out = (clauses_kept s s c w t sat out sat r.1, first_true c w t r.0)

pub satisfies_all-push : (t : List ℕ) (s : List (List Literal)) (c : List Literal) → satisfies_all t (s ++ c ∷ []) ≡ (satisfies_all t s && satisfies t c)
satisfies_all-push t [] c = grind arith
satisfies_all-push t (d ∷ s) c = grind (arith, satisfies_all-push t s c)

pub rup_sound : (s : List (List Literal)) (c : List Literal) → Rup s c → Unsat (s ++ c ∷ []) → Unsat s
rup_sound s c r u t = by_test (satisfies_all t s)
    (λ sat. absurd (grind (arith, satisfies_all-push t s c, u t, refuted_holds s c r t sat)))
    (λ f. f)

pub sr_sound : (s : List (List Literal)) (c : List Literal) (w : Substitution) → Sr s s c w → Unsat (s ++ c ∷ []) → Unsat s
sr_sound s c w r u t = by_test (satisfies_all t s)
    (λ sat. by_test (satisfies t c)
    (λ e. absurd (grind (arith, satisfies_all-push t s c, u t)))
    (λ e. let k = keeps s c w r t sat e in absurd (grind (arith, satisfies_all-push (moved w t) s c, u (moved w t), k.0, k.1))))
    (λ f. f)

pub redundant_sound : (s : List (List Literal)) (c : List Literal) (w : Substitution) → Rup s c ⊎ Sr s s c w → Unsat (s ++ c ∷ []) → Unsat s
redundant_sound s c w (inl r) = rup_sound s c r
redundant_sound s c w (inr r) = sr_sound s c w r
