-- Lemmas on lists of numbers.
use Rattle.std.proofs.Common.{◌≡◌, ◌≢◌, ℕ, cond, ◌+◌, ◌==◌, Bool, true, false, ◌||◌, List, [], ◌∷◌, ◌++◌, refl, sym, ◌∙◌, ap, subst, arith}
use Rattle.std.specs.Prelude.{filter}
use Rattle.std.specs.List.{list_any}
use Rattle.std.specs.List.Sorted.{IsPermutation}
use Rattle.std.proofs.lemmas.List.Sorted.{list_any-IsPermutation, sum_by-IsPermutation}
use Rattle.std.proofs.lemmas.List.Sums.{sum_by-cons, sum_by_push}
use Rattle.std.proofs.lemmas.Bool.Decides.{nat_tests}
use Rattle.sr_model.specs.Assignment.{holds_number}
use Rattle.sr_table.specs.Pages.{Paged, entry, SameEntries, Sets}
use Rattle.sr_table.specs.Numbers.{KeepsHeld, HoldsAll, times_in, AreDistinct, AreNoted}
use Rattle.sr_table.proofs.Paging.{by_eq, by_test}

pub holds_push : (v n : ℕ) (ids : List ℕ) → holds_number v (ids ++ n ∷ []) ≡ (holds_number v ids || (n == v))
holds_push v n [] = grind arith
holds_push v n (w ∷ ids) = grind (arith, holds_push v n ids)

-- the same numbers in another order
holds_any : (n : ℕ) (ns : List ℕ) → list_any (λ m. m == n) ns ≡ holds_number n ns
holds_any n [] = refl
holds_any n (m ∷ ms) = ap (λ b. (m == n) || b) (holds_any n ms)

pub holds_moved : (n : ℕ) (xs ys : List ℕ) → IsPermutation xs ys → holds_number n ys ≡ holds_number n xs
holds_moved n xs ys p = sym (holds_any n ys) ∙ sym (list_any-IsPermutation (λ m. m == n) xs ys p) ∙ holds_any n xs

pub held_moved : (xs ys : List ℕ) → IsPermutation xs ys → KeepsHeld xs ys
held_moved xs ys p n h = holds_moved n xs ys p ∙ h

-- one more number
pub held_push : (ns : List ℕ) (n : ℕ) → KeepsHeld ns (ns ++ n ∷ [])
held_push ns n m h = grind (arith, h, holds_push m n ns)

pub holds_last : (ns : List ℕ) (n : ℕ) → holds_number n (ns ++ n ∷ []) ≡ true
holds_last ns n = grind (arith, nat_tests, holds_push n n ns)

pub all_more : (ns ms ks : List ℕ) → KeepsHeld ns ms → HoldsAll ns ks → HoldsAll ms ks
all_more ns ms [] k h = tt
all_more ns ms (n ∷ ks) k h = (k n h.0, all_more ns ms ks k h.1)

pub all_push : (ns ks : List ℕ) (n : ℕ) → HoldsAll ns ks → holds_number n ns ≡ true → HoldsAll ns (ks ++ n ∷ [])
all_push ns [] n h k = (k, tt)
all_push ns (m ∷ ks) n h k = (h.0, all_push ns ks n h.1 k)

pub all_held : (ns ks : List ℕ) → HoldsAll ns ks → KeepsHeld ks ns
all_held ns [] h n i = absurd cc
all_held ns (k ∷ ks) h n i = by_test (k == n)
    (λ t. let e : k ≡ n = grind (arith, nat_tests) in subst (λ m. holds_number m ns ≡ true) e h.0)
    (λ f. all_held ns ks h.1 n (grind (arith, i, f)))

-- numbers that pass a test
pub held_filter : (p : ℕ → Bool) (n : ℕ) (ns : List ℕ) → p n ≡ true → holds_number n ns ≡ true → holds_number n (filter p ns) ≡ true
held_filter p n [] t h = absurd cc
held_filter p n (m ∷ ms) t h = by_test (m == n)
    (λ e. let q : p m ≡ true = (let is : n ≡ m = grind (arith, nat_tests) in rw is at t) in rw q (grind (arith, e)))
    (λ f. let rest : holds_number n (filter p ms) ≡ true = held_filter p n ms t (grind (arith, h, f)) in by_test (p m) (λ q. rw q (grind (arith, rest))) (λ q. rw q rest))

-- how often a number comes
times_moved : (n : ℕ) (xs ys : List ℕ) → IsPermutation xs ys → times_in n ys ≡ times_in n xs
times_moved n xs ys p = sum_by-IsPermutation (λ m. cond (m == n) 1 0) xs ys p

times_none : (n : ℕ) (ns : List ℕ) → holds_number n ns ≡ false → times_in n ns ≡ 0
times_none n [] h = refl
times_none n (m ∷ ms) h =
    let sum : times_in n (m ∷ ms) ≡ cond (m == n) 1 0 + times_in n ms = sum_by-cons (λ k. cond (k == n) 1 0) m ms in
    by_test (m == n)
    (λ t. let bad : true ≡ false = rw t at h in absurd cc)
    (λ f. sum ∙ rw f (omega (arith, times_none n ms (rw f at h))))

times_push : (n v : ℕ) (ns : List ℕ) → times_in n (ns ++ v ∷ []) ≡ times_in n ns + cond (v == n) 1 0
times_push n v ns = sum_by_push (λ m. cond (m == n) 1 0) ns v

pub once_moved : (xs ys : List ℕ) → IsPermutation xs ys → AreDistinct xs → AreDistinct ys
once_moved xs ys p d n = omega (arith, times_moved n xs ys p, d n)

pub once_push : (ns : List ℕ) (v : ℕ) → AreDistinct ns → holds_number v ns ≡ false → AreDistinct (ns ++ v ∷ [])
once_push ns v d out n = by_test (v == n)
    (λ t. let none : times_in n ns ≡ 0 = times_none n ns (subst (λ k. holds_number k ns ≡ false) (grind (arith, nat_tests)) out) in rw (times_push n v ns) (rw t (omega (arith, none))))
    (λ f. rw (times_push n v ns) (rw f (omega (arith, d n))))

-- what a table tells of numbers
pub noted_same : (ns : List ℕ) (old new : Paged) (round : ℕ) → SameEntries old new → AreNoted ns old round → AreNoted ns new round
noted_same ns old new round same h = record { begun = h.begun; past = λ n. rw (same n) (h.past n); there = λ n e. h.there n (sym (same n) ∙ e); noted = λ n k. same n ∙ h.noted n k; once = h.once }

pub noted_moved : (ns ms : List ℕ) (rounds : Paged) (round : ℕ) → IsPermutation ns ms → AreNoted ns rounds round → AreNoted ms rounds round
noted_moved ns ms rounds round p h = record {
  begun = h.begun;
  past = h.past;
  there = λ n e. held_moved ns ms p n (h.there n e);
  noted = λ n k. h.noted n (sym (holds_moved n ns ms p) ∙ k);
  once = once_moved ns ms p h.once;
}

-- a number that isn't noted isn't there
pub not_there : (ns : List ℕ) (rounds : Paged) (round n : ℕ) → AreNoted ns rounds round → entry rounds n ≢ round → holds_number n ns ≡ false
not_there ns rounds round n h ne = by_test (holds_number n ns) (λ t. absurd (ne (h.noted n t))) (λ f. f)

pub noted_push : (ns : List ℕ) (old new : Paged) (round n : ℕ) → Sets old new n round → holds_number n ns ≡ false → AreNoted ns old round → AreNoted (ns ++ n ∷ []) new round
noted_push ns old new round n sets out h = record {
  begun = h.begun;
  past = λ m. rw (sets m) (by_test (n == m) (λ t. rw t (omega arith)) (λ f. rw f (h.past m)));
  there = λ m e. by_eq n m
      (λ is. subst (λ k. holds_number k (ns ++ n ∷ []) ≡ true) is (holds_last ns n))
      (λ other. let f : (n == m) ≡ false = grind (arith, nat_tests) in held_push ns n m (h.there m (sym (sets m ∙ rw f refl) ∙ e)));
  noted = λ m k. by_test (n == m)
      (λ t. sets m ∙ rw t refl)
      (λ f. sets m ∙ rw f (h.noted m (let both : (holds_number m ns || (n == m)) ≡ true = sym (holds_push m n ns) ∙ k in grind (arith, both, f))));
  once = once_push ns n h.once out;
}

-- a new round
pub noted_next : (ns : List ℕ) (rounds : Paged) (round : ℕ) → AreNoted ns rounds round → AreNoted [] rounds (round + 1)
noted_next ns rounds round h = record { begun = omega arith; past = λ n. omega (arith, h.past n); there = λ n e. absurd (omega (arith, h.past n, e)); noted = λ n k. absurd cc; once = λ n. omega arith }
