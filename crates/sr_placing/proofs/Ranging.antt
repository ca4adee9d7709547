-- Numbers in rising order.
use Rattle.std.proofs.Common.{◌≡◌, ℕ, suc, zero, ◌+◌, ◌<◌, ◌≤◌, ◌==◌, Bool, true, false, ◌&&◌, cond, List, [], ◌∷◌, ◌++◌, refl, sym, ◌∙◌, ap, subst, arith, length, get_or, take, add-one, append_assoc, append-nil}
use Rattle.std.specs.Prelude.{filter}
use Rattle.std.proofs.lemmas.List.{take_more, length-take-le}
use Rattle.std.proofs.lemmas.Bool.Decides.{nat_tests}
use Rattle.sr_base.specs.Literal.{Literal}
use Rattle.sr_model.specs.Assignment.{holds_number}
use Rattle.sr_model.specs.Chain.{Numbered}
use Rattle.sr_model.specs.Judging.{numbered_from}
use Rattle.sr_trimming.specs.Placing.{numbers}
use Rattle.sr_trimming.proofs.Placed.{NumbersRise}
use Rattle.sr_table.proofs.Paging.{by_test}
use Rattle.sr_placing.specs.Marks.{numbers_where}

-- so many numbers from one on
abbrev pub up_from : ℕ → ℕ → List ℕ
up_from n zero = []
up_from n (suc c) = n ∷ up_from (n + 1) c

pub up_rises : (n c : ℕ) → NumbersRise n (up_from (n + 1) c)
up_rises n zero = tt
up_rises n (suc c) = (omega arith, up_rises (n + 1) c)

pub up_holds : (n c k : ℕ) → n ≤ k → k < n + c → holds_number k (up_from n c) ≡ true
up_holds n zero k low high = absurd (omega arith)
up_holds n (suc c) k low high = by_test (n == k)
    (λ e. grind arith)
    (λ e. let next : n + 1 ≤ k = grind (arith, nat_tests) in grind (arith, up_holds (n + 1) c k next (omega arith)))

pub numbered_up : (n : ℕ) (f : List (List Literal)) → numbers (numbered_from n f) ≡ up_from n (length f)
numbered_up n [] = refl
numbered_up n (c ∷ cs) = ap (λ x. n ∷ x) (numbered_up (n + 1) cs)

-- filters
pub filter_same : (t u : ℕ → Bool) (xs : List ℕ) → ((n : ℕ) → t n ≡ u n) → filter t xs ≡ filter u xs
filter_same t u [] e = refl
filter_same t u (x ∷ xs) e = ap (λ b. cond b (x ∷ filter t xs) (filter t xs)) (e x) ∙ ap (λ l. cond (u x) (x ∷ l) l) (filter_same t u xs e)

pub numbers_filter : (t : ℕ → Bool) (ps : Numbered) → numbers (filter (λ p. t p.0) ps) ≡ filter t (numbers ps)
numbers_filter t [] = refl
numbers_filter t (p ∷ ps) = by_test (t p.0) (λ e. rw e (ap (λ l. p.0 ∷ l) (numbers_filter t ps))) (λ e. rw e (numbers_filter t ps))

pub holds_filter : (t : ℕ → Bool) (k : ℕ) (xs : List ℕ) → holds_number k (filter t xs) ≡ (t k && holds_number k xs)
holds_filter t k [] = grind arith
holds_filter t k (x ∷ xs) = by_test (x == k)
    (λ e. let is : x ≡ k = grind (arith, nat_tests) in let same : t x ≡ t k = ap t is in grind (arith, nat_tests, holds_filter t k xs))
    (λ e. grind (arith, holds_filter t k xs))

rise_lower : (m n : ℕ) (xs : List ℕ) → m ≤ n → NumbersRise n xs → NumbersRise m xs
rise_lower m n [] h r = tt
rise_lower m n (x ∷ xs) h r = (omega (arith, r.0), r.1)

pub rise_filter : (t : ℕ → Bool) (n : ℕ) (xs : List ℕ) → NumbersRise n xs → NumbersRise n (filter t xs)
rise_filter t n [] r = tt
rise_filter t n (x ∷ xs) r = by_test (t x) (λ e. rw e (r.0, rise_filter t x xs r.1)) (λ e. rw e (rise_lower n x (filter t xs) (omega (arith, r.0)) (rise_filter t x xs r.1)))

pub above_rising : (n k : ℕ) (xs : List ℕ) → NumbersRise n xs → holds_number k xs ≡ true → n < k
above_rising n k [] r h = absurd cc
above_rising n k (x ∷ xs) r h = by_test (x == k)
    (λ e. let is : x ≡ k = grind (arith, nat_tests) in omega (arith, r.0))
    (λ e. let up : x < k = above_rising x k xs r.1 (grind arith) in omega (arith, r.0))

not_below : (n k : ℕ) (xs : List ℕ) → NumbersRise n xs → k ≤ n → holds_number k xs ≡ false
not_below n k xs r h = by_test (holds_number k xs) (λ e. absurd (omega (arith, above_rising n k xs r e))) (λ e. e)

-- rising lists of the same numbers are one
pub same_rising : (n : ℕ) (xs ys : List ℕ) → NumbersRise n xs → NumbersRise n ys → ((k : ℕ) → holds_number k xs ≡ holds_number k ys) → xs ≡ ys
same_rising n [] [] r s e = refl
same_rising n [] (y ∷ ys) r s e = let bad : false ≡ true = e y ∙ grind (arith, nat_tests) in absurd cc
same_rising n (x ∷ xs) [] r s e = let bad : false ≡ true = sym (e x) ∙ grind (arith, nat_tests) in absurd cc
same_rising n (x ∷ xs) (y ∷ ys) r s e =
    let low : x ≤ y = first_least x y xs r.1 (e y ∙ grind (arith, nat_tests)) in
    let high : y ≤ x = first_least y x ys s.1 (sym (e x) ∙ grind (arith, nat_tests)) in
    let is : x ≡ y = omega arith in
    let more : NumbersRise x ys = subst (λ m. NumbersRise m ys) (sym is) s.1 in
    let rest : xs ≡ ys = same_rising x xs ys r.1 more (λ k. others k is more) in
    cc
  where
    first_least : (a b : ℕ) (more : List ℕ) → NumbersRise a more → holds_number b (a ∷ more) ≡ true → a ≤ b
    first_least a b more rise h = by_test (a == b)
        (λ t. let is : a ≡ b = grind (arith, nat_tests) in omega arith)
        (λ f. let up : a < b = above_rising a b more rise (grind arith) in omega arith)

    others : (k : ℕ) → x ≡ y → NumbersRise x ys → holds_number k xs ≡ holds_number k ys
    others k is more = by_test (x == k)
        (λ t. let same : x ≡ k = grind (arith, nat_tests) in not_below x k xs r.1 (omega arith) ∙ sym (not_below x k ys more (omega arith)))
        (λ f. let g : (y == k) ≡ false = ap (λ m. m == k) (sym is) ∙ f in let both = e k in grind arith)

-- the numbers whose marks pass a test, where the marks are told
pub where_told : (t : ℕ → Bool) (mark : ℕ → ℕ) (n : ℕ) (xs : List ℕ) → ((i : ℕ) → i < length xs → get_or xs i 0 ≡ mark (n + i)) → numbers_where t n xs ≡ filter (λ m. t (mark m)) (up_from n (length xs))
where_told t mark n [] told = refl
where_told t mark n (x ∷ xs) told =
    let first : x ≡ mark n = told 0 (omega arith) ∙ ap mark (omega arith) in
    let more : numbers_where t (n + 1) xs ≡ filter (λ m. t (mark m)) (up_from (n + 1) (length xs)) =
    where_told t mark (n + 1) xs (λ i h. let next : i + 1 ≡ suc i = add-one i in subst (λ j. get_or (x ∷ xs) j 0 ≡ mark (n + j)) next (told (i + 1) (omega arith)) ∙ ap mark (omega arith)) in
    rw (ap t first, more) refl

pub where_append : (t : ℕ → Bool) (n : ℕ) (xs : List ℕ) (x : ℕ) → numbers_where t n (xs ++ x ∷ []) ≡ numbers_where t n xs ++ cond (t x) ((n + length xs) ∷ []) []
where_append t n [] x = ap (λ m. cond (t x) (m ∷ []) []) (omega arith)
where_append t n (y ∷ xs) x =
    let more : numbers_where t (n + 1) (xs ++ x ∷ []) ≡ numbers_where t (n + 1) xs ++ cond (t x) ((n + suc (length xs)) ∷ []) [] =
    where_append t (n + 1) xs x ∙ ap (λ m. numbers_where t (n + 1) xs ++ cond (t x) (m ∷ []) []) (omega arith) in
    by_test (t y) (λ e. rw (e, more) refl) (λ e. rw (e, more) refl)

-- of two rising lists that hold what passes, the same is picked
pub picked_same : (t : ℕ → Bool) (n : ℕ) (xs ys : List ℕ) → NumbersRise n xs → NumbersRise n ys → ((k : ℕ) → t k ≡ true → holds_number k xs ≡ holds_number k ys) → filter t xs ≡ filter t ys
picked_same t n xs ys r s e = same_rising n (filter t xs) (filter t ys) (rise_filter t n xs r) (rise_filter t n ys s)
    (λ k. holds_filter t k xs ∙ by_test (t k) (λ p. ap (λ b. t k && b) (e k p)) (λ f. rw f refl) ∙ sym (holds_filter t k ys))

pub where_more : (t : ℕ → Bool) (xs : List ℕ) (i : ℕ) → i < length xs → numbers_where t 1 (take (i + 1) xs) ≡ numbers_where t 1 (take i xs) ++ cond (t (get_or xs i 0)) ((i + 1) ∷ []) []
where_more t xs i h =
    let at : 1 + length (take i xs) ≡ i + 1 = omega (arith, length-take-le i xs (omega arith)) in
    ap (numbers_where t 1) (take_more xs i 0 h) ∙ where_append t 1 (take i xs) (get_or xs i 0) ∙ ap (λ m. numbers_where t 1 (take i xs) ++ cond (t (get_or xs i 0)) (m ∷ []) []) at

-- one more number is added to a list where it passes, and else the list stays
pub added : (t : ℕ → Bool) (old list list' xs : List ℕ) (i : ℕ) → i < length xs → list ≡ old ++ numbers_where t 1 (take i xs) → t (get_or xs i 0) ≡ true → list' ≡ list ++ (i + 1) ∷ []
    → list' ≡ old ++ numbers_where t 1 (take (i + 1) xs)
added t old list list' xs i h was passes is =
    let more : numbers_where t 1 (take (i + 1) xs) ≡ numbers_where t 1 (take i xs) ++ (i + 1) ∷ [] = where_more t xs i h ∙ rw passes refl in
    is ∙ ap (λ l. l ++ (i + 1) ∷ []) was ∙ append_assoc old (numbers_where t 1 (take i xs)) ((i + 1) ∷ []) ∙ ap (λ l. old ++ l) (sym more)

pub not_added : (t : ℕ → Bool) (old list xs : List ℕ) (i : ℕ) → i < length xs → list ≡ old ++ numbers_where t 1 (take i xs) → t (get_or xs i 0) ≡ false
    → list ≡ old ++ numbers_where t 1 (take (i + 1) xs)
not_added t old list xs i h was none =
    let more : numbers_where t 1 (take (i + 1) xs) ≡ numbers_where t 1 (take i xs) = where_more t xs i h ∙ rw none (append-nil (numbers_where t 1 (take i xs))) in
    was ∙ ap (λ l. old ++ l) (sym more)
