-- Hashes of clauses, and marks on their literals.
use Rattle.std.proofs.Common.{◌≡◌, ◌≢◌, ◌<◌, ◌≤◌, ◌+◌, ◌%◌, ◌^◌, ℕ, suc, zero, Bool, true, false, cond, not, ◌==◌, ◌||◌, ◌&&◌, List, [], ◌∷◌, ◌++◌, refl, sym, ◌∙◌, ap, subst, arith, length, get_or, set, take, take_all, get_or-set_same, get_or-set_other}
use Rattle.std.specs.Prelude.{filter, sum_by}
use Rattle.std.specs.List.{list_all}
use Rattle.std.proofs.lemmas.List.{take_more}
use Rattle.std.proofs.lemmas.List.Sums.{sum_by-cons}
use Rattle.std.proofs.lemmas.Bool.Decides.{nat_tests}
use Rattle.sr_base.specs.LiteralCode.{same_code}
use Rattle.sr_base.specs.Literal.{Literal, literal_code, same, has, SameSet, NoRepeats}
use Rattle.sr_base.proofs.Literals.{same_tells, has_append, has_filter, not_has_filter}
use Rattle.sr_base.proofs.Plain.{filter_absent}
use Rattle.sr_model.proofs.Soundness.{by_test, has_kept}
use Rattle.sr_load.specs.Buckets.{one_of, other_of, sum_of, both_of, hash_of, marked, AreMarked, HaveRoom, is_marked_set}

-- a test of all elements, one after another
list_all_push : (p : Literal → Bool) (xs : List Literal) (l : Literal) → list_all p (xs ++ l ∷ []) ≡ (list_all p xs && p l)
list_all_push p [] l = at (p l)
  where
    at : (b : Bool) → (b && true) ≡ (true && b)
    at true = refl
    at false = refl
list_all_push p (x ∷ xs) l = ap (λ b. p x && b) (list_all_push p xs l) ∙ assoc (p x) (list_all p xs) (p l)
  where
    assoc : (a b c : Bool) → (a && (b && c)) ≡ ((a && b) && c)
    assoc true b c = refl
    assoc false b c = refl

more_is : (xs : List Literal) (i : ℕ) (l : Literal) → i < length xs → l ≡ get_or xs i l → take (i + 1) xs ≡ take i xs ++ l ∷ []
more_is xs i l lt e = take_more xs i l lt ∙ ap (λ x. take i xs ++ x ∷ []) (sym e)

pub all_more : (p : Literal → Bool) (xs : List Literal) (i : ℕ) (l : Literal) → i < length xs → l ≡ get_or xs i l → list_all p (take i xs) ≡ true → p l ≡ true → list_all p (take (i + 1) xs) ≡ true
all_more p xs i l lt e h t = ap (list_all p) (more_is xs i l lt e) ∙ list_all_push p (take i xs) l ∙ rw (h, t) refl

pub one_fails : (p : Literal → Bool) (xs : List Literal) (i : ℕ) (l : Literal) → i < length xs → l ≡ get_or xs i l → p l ≡ false → list_all p xs ≡ false
one_fails p [] i l lt e f = absurd (omega arith)
one_fails p (x ∷ xs) zero l lt e f = let is : p x ≡ false = ap p (sym e) ∙ f in rw is refl
one_fails p (x ∷ xs) (suc i) l lt e f = let rest : list_all p xs ≡ false = one_fails p xs i l (omega arith) e f in by_test (p x) (λ t. rw (t, rest) refl) (λ t. rw t refl)

pub all_done : (p : Literal → Bool) (xs : List Literal) (i : ℕ) → length xs ≤ i → list_all p (take i xs) ≡ true → list_all p xs ≡ true
all_done p xs i le h = ap (list_all p) (sym (take_all i xs le)) ∙ h

-- marks
marked_set : (t : List Bool) (l k : Literal) (b : Bool) → literal_code l < length t → marked (set t (literal_code l) b) k ≡ cond (same l k) b (marked t k)
marked_set t l k b lt = by_test (same l k)
    (λ y. let e : l ≡ k = grind (arith, same_tells l k) in rw y (subst (λ j. marked (set t (literal_code l) b) j ≡ b) e (get_or-set_same t (literal_code l) b false lt)))
    (λ y. let ne : literal_code k ≢ literal_code l = λ e. let bad : l ≡ k = sym (same_code k l e) in absurd (grind (arith, same_tells l k)) in rw y (get_or-set_other t (literal_code l) (literal_code k) b false ne))

pub marked_more : (old now : List Bool) (xs : List Literal) (i : ℕ) (l : Literal) (to : Bool) (k : Literal) → i < length xs → l ≡ get_or xs i l → literal_code l < length now → marked now k ≡ cond (has k (take i xs)) to (marked old k)
    → marked (set now (literal_code l) to) k ≡ cond (has k (take (i + 1) xs)) to (marked old k)
marked_more old now xs i l to k lt e room h =
    let there : has k (take (i + 1) xs) ≡ (has k (take i xs) || has k (l ∷ [])) = ap (has k) (more_is xs i l lt e) ∙ has_append k (take i xs) (l ∷ []) in
    marked_set now l k to room ∙ by_test (same l k)
    (λ y. by_test (has k (take i xs)) (λ z. rw (there, y, z) refl) (λ z. rw (there, y, z) refl))
    (λ y. by_test (has k (take i xs)) (λ z. rw (there, y, z, h, z) refl) (λ z. rw (there, y, z, h, z) refl))

in_list : (xs : List Literal) (i : ℕ) (l : Literal) → i < length xs → l ≡ get_or xs i l → has l xs ≡ true
in_list [] i l lt e = absurd (omega arith)
in_list (x ∷ xs) zero l lt e = grind (arith, same_tells x l)
in_list (x ∷ xs) (suc i) l lt e = let r : has l xs ≡ true = in_list xs i l (omega arith) e in grind arith

pub room_at : (t : List Bool) (xs : List Literal) (i : ℕ) (l : Literal) → i < length xs → l ≡ get_or xs i l → HaveRoom t xs → literal_code l < length t
room_at t xs i l lt e room = room l (in_list xs i l lt e)

pub have_more : (t u : List Bool) (xs : List Literal) (i : ℕ) (l : Literal) → i < length xs → l ≡ get_or xs i l → HaveRoom t (take i xs) → length t ≤ length u → literal_code l < length u → HaveRoom u (take (i + 1) xs)
have_more t u xs i l lt e room le here k h =
    let g : (has k (take i xs) || has k (l ∷ [])) ≡ true = sym (has_append k (take i xs) (l ∷ [])) ∙ ap (has k) (sym (more_is xs i l lt e)) ∙ h in
    by_test (same l k)
    (λ y. let is : l ≡ k = grind (arith, same_tells l k) in subst (λ j. literal_code j < length u) is here)
    (λ y. let r : literal_code k < length t = room k (grind arith) in omega arith)

-- the elements but one
without : Literal → List Literal → List Literal
without l d = filter (λ k. not (same l k)) d

sum_out : (f : Literal → ℕ) (d : List Literal) (l : Literal) → NoRepeats d → has l d ≡ true → sum_by f d ≡ f l + sum_by f (without l d)
unfolding without
sum_out f [] l n h = absurd cc
sum_out f (k ∷ d) l n h = by_test (same k l)
    (λ y. let is : k ≡ l = grind (arith, same_tells k l) in
    let back : same l k ≡ true = grind (arith, same_tells l k) in
    let gone : has l d ≡ false = subst (λ j. has j d ≡ false) is n.0 in
    rw back (sum_by-cons f k d ∙ ap (λ j. f j + sum_by f d) is ∙ ap (λ x. f l + sum_by f x) (sym (filter_absent l d gone))))
    (λ y. let back : same l k ≡ false = grind (arith, same_tells l k, same_tells k l) in
    let there : has l d ≡ true = grind arith in
    rw back (omega (arith, sum_by-cons f k d, sum_by-cons f k (without l d), sum_out f d l n.1 there)))

no_repeats_out : (p : Literal → Bool) (d : List Literal) → NoRepeats d → NoRepeats (filter p d)
no_repeats_out p [] n = tt
no_repeats_out p (k ∷ d) n = by_test (p k) (λ y. rw y (not_has_filter k k d p n.0, no_repeats_out p d n.1)) (λ y. rw y (no_repeats_out p d n.1))

-- sums over the same literals
pub sum_same : (f : Literal → ℕ) (c d : List Literal) → NoRepeats c → NoRepeats d → SameSet c d → sum_by f c ≡ sum_by f d
unfolding without
sum_same f [] [] n m s = refl
sum_same f [] (k ∷ d) n m s = let bad : false ≡ has k (k ∷ d) = s k in absurd (grind (arith, same_tells k k))
sum_same f (l ∷ c) d n m s =
    let there : has l d ≡ true = sym (s l) ∙ grind (arith, same_tells l l) in
    let rest : SameSet c (without l d) = λ k. by_test (same l k)
    (λ y. let is : l ≡ k = grind (arith, same_tells l k) in
    let one : has k c ≡ false = subst (λ j. has j c ≡ false) is n.0 in
    one ∙ sym (has_kept (λ j. not (same l j)) k d ∙ rw y refl))
    (λ y. let one : has k (l ∷ c) ≡ has k c = rw y refl in sym one ∙ s k ∙ sym (has_filter l k d y)) in
    omega (arith, sum_by-cons f l c, sum_out f d l m there, sum_same f c (without l d) n.1 (no_repeats_out (λ j. not (same l j)) d m) rest)

length_sum : (c : List Literal) → length c ≡ sum_by (λ l. 1) c
length_sum [] = refl
length_sum (l ∷ c) = omega (arith, length_sum c, sum_by-cons (λ (l : Literal). 1) l c)

pub length_same : (c d : List Literal) → NoRepeats c → NoRepeats d → SameSet c d → length c ≡ length d
length_same c d n m s = length_sum c ∙ sum_same (λ l. 1) c d n m s ∙ sym (length_sum d)

sum_of_same : (mix : ℕ → ℕ) (c d : List Literal) → NoRepeats c → NoRepeats d → SameSet c d → sum_of mix c ≡ sum_of mix d
sum_of_same mix c d n m s = ap (λ x. (x + sum_by (λ l. mix (literal_code l)) c) % 2 ^ 64) (length_same c d n m s) ∙ ap (λ x. (length d + x) % 2 ^ 64) (sum_same (λ l. mix (literal_code l)) c d n m s)

pub hash_same : (c d : List Literal) → NoRepeats c → NoRepeats d → SameSet c d → hash_of c ≡ hash_of d
hash_same c d n m s = ap (λ x. both_of x (sum_of other_of c)) (sum_of_same one_of c d n m s) ∙ ap (both_of (sum_of one_of d)) (sum_of_same other_of c d n m s)

-- as many literals, all of which are of the other clause
pub included_same : (c d : List Literal) → NoRepeats c → NoRepeats d → length c ≡ length d → ((l : Literal) → has l c ≡ true → has l d ≡ true) → SameSet c d
unfolding without
included_same [] [] n m e f k = refl
included_same [] (l ∷ d) n m e f k = absurd (omega arith)
included_same (l ∷ c) d n m e f k =
    let there : has l d ≡ true = f l (grind (arith, same_tells l l)) in
    let few : length c ≡ length (without l d) = omega (arith, length_sum d, length_sum (without l d), sum_out (λ l. 1) d l m there) in
    let rest : SameSet c (without l d) = included_same c (without l d) n.1 (no_repeats_out (λ j. not (same l j)) d m) few
    (λ j h. by_test (same l j)
    (λ y. let is : l ≡ j = grind (arith, same_tells l j) in let bad : has j c ≡ false = subst (λ i. has i c ≡ false) is n.0 in absurd cc)
    (λ y. has_filter l j d y ∙ f j (grind arith))) in
    by_test (same l k)
    (λ y. let is : l ≡ k = grind (arith, same_tells l k) in rw y (sym (subst (λ j. has j d ≡ true) is there)))
    (λ y. rw y (rest k ∙ has_filter l k d y))

-- the marks tell whether two clauses are one as sets
all_has : (p : Literal → Bool) (c : List Literal) → list_all p c ≡ true → (l : Literal) → has l c ≡ true → p l ≡ true
all_has p [] h l m = absurd cc
all_has p (k ∷ c) h l m = by_test (same k l)
    (λ y. let is : k ≡ l = grind (arith, same_tells k l) in by_test (p k) (λ t. subst (λ j. p j ≡ true) is t) (λ t. let bad : false ≡ true = rw t at h in absurd cc))
    (λ y. by_test (p k) (λ t. all_has p c (rw t at h) l (rw y at m)) (λ t. let bad : false ≡ true = rw t at h in absurd cc))

all_from : (p : Literal → Bool) (c : List Literal) → ((l : Literal) → has l c ≡ true → p l ≡ true) → list_all p c ≡ true
all_from p [] f = refl
all_from p (k ∷ c) f = rw (f k (grind (arith, same_tells k k)), all_from p c (λ l h. f l (grind arith))) refl

pub marked_same : (marks : List Bool) (c d : List Literal) (count : ℕ) → NoRepeats c → NoRepeats d → AreMarked marks d → count ≡ length d → is_marked_set marks count c ≡ true → SameSet c d
marked_same marks c d count n m a e h =
    by_test (length c == count)
    (λ t. let le : length c ≡ count = grind (arith, nat_tests) in
    let all : list_all (marked marks) c ≡ true = rw t at h in
    included_same c d n m (le ∙ e) (λ l k. sym (a l) ∙ all_has (marked marks) c all l k))
    (λ t. let bad : false ≡ true = rw t at h in absurd cc)

pub unmarked_differs : (marks : List Bool) (c d : List Literal) (count : ℕ) → NoRepeats c → NoRepeats d → AreMarked marks d → count ≡ length d → is_marked_set marks count c ≡ false → SameSet c d → ⊥
unmarked_differs marks c d count n m a e h s =
    let le : length c ≡ count = length_same c d n m s ∙ sym e in
    let t : (length c == count) ≡ true = grind (arith, nat_tests) in
    let all : list_all (marked marks) c ≡ true = all_from (marked marks) c (λ l k. a l ∙ sym (s l) ∙ k) in
    let bad : is_marked_set marks count c ≡ true = rw (t, all) refl in cc
