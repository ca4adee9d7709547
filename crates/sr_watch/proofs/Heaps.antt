-- A heap of places.
use Rattle.std.proofs.Common.{◌≡◌, ℕ, ◌<◌, ◌≤◌, ◌==◌, true, false, ◌||◌, List, [], ◌∷◌, refl, sym, ◌∙◌, ap, subst, arith}
use Rattle.std.specs.Prelude.{All}
use Rattle.std.specs.List.{list_any}
use Rattle.std.specs.List.Sorted.{IsPermutation}
use Rattle.std.specs.Ordering.{nat_cmp}
use Rattle.std.specs.BinaryHeap.{IsUpperBound}
use Rattle.std.proofs.lemmas.Bool.Decides.{nat_tests}
use Rattle.std.proofs.lemmas.List.Elements.{All-tail}
use Rattle.std.proofs.lemmas.List.Sorted.{list_any-IsPermutation, le_from_greatest}
use Rattle.sr_model.specs.Assignment.{holds_number}
use Rattle.sr_model.proofs.Soundness.{by_test}
use Rattle.sr_watch.specs.Queued.{IsPut}

holds_as : (n : ℕ) (ks : List ℕ) → list_any (λ k. k == n) ks ≡ holds_number n ks
holds_as n [] = refl
holds_as n (k ∷ ks) = ap (λ b. (k == n) || b) (holds_as n ks)

-- an order doesn't tell which numbers there are
pub holds_permuted : (n : ℕ) (xs ys : List ℕ) → IsPermutation xs ys → holds_number n ys ≡ holds_number n xs
holds_permuted n xs ys p = sym (holds_as n ys) ∙ sym (list_any-IsPermutation (λ k. k == n) xs ys p) ∙ holds_as n xs

pub put_from : (x : ℕ) (old new : List ℕ) → IsPermutation (x ∷ old) new → IsPut old new x
put_from x old new p i = holds_permuted i (x ∷ old) new p

at_most : (x : ℕ) (ks : List ℕ) → All (λ k. k ≤ x) ks → (n : ℕ) → holds_number n ks ≡ true → n ≤ x
at_most x [] a n h = absurd cc
at_most x (k ∷ ks) a n h = by_test (k == n)
    (λ e. let is : k ≡ n = grind (arith, nat_tests) in subst (λ j. j ≤ x) is (a 0 k (omega arith)))
    (λ e. at_most x ks (All-tail (λ j. j ≤ x) k ks a) n (grind arith))

-- what was taken out is the greatest
pub greatest_from : (x : ℕ) (old new : List ℕ) → IsPermutation old (x ∷ new) → IsUpperBound nat_cmp x new → (n : ℕ) → holds_number n old ≡ true → n ≤ x
greatest_from x old new p u n h =
    let g : holds_number n (x ∷ new) ≡ true = holds_permuted n old (x ∷ new) p ∙ h in
    by_test (x == n)
    (λ e. let is : x ≡ n = grind (arith, nat_tests) in omega arith)
    (λ e. at_most x new (le_from_greatest x new u) n (grind arith))

-- another one stays
pub other_stays : (x : ℕ) (old new : List ℕ) → IsPermutation old (x ∷ new) → (n : ℕ) → n < x → holds_number n new ≡ holds_number n old
other_stays x old new p n lt =
    let f : (x == n) ≡ false = grind (arith, nat_tests) in
    let g : holds_number n (x ∷ new) ≡ holds_number n old = holds_permuted n old (x ∷ new) p in
    rw f at g

pub taken_was_there : (x : ℕ) (old new : List ℕ) → IsPermutation old (x ∷ new) → holds_number x old ≡ true
taken_was_there x old new p = let t : (x == x) ≡ true = grind (arith, nat_tests) in sym (holds_permuted x old (x ∷ new) p) ∙ rw t refl
