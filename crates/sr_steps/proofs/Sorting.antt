-- A sorted list of groups is the list in rising order.
use Rattle.std.proofs.Common.{◌≡◌, ◌⊎◌, inl, inr, ℕ, zero, suc, ◌≤◌, ◌<◌, ◌==◌, true, false, cond, List, [], ◌∷◌, length, get_or, map, refl, sym, ap, subst, ◌∙◌, arith}
use Rattle.std.specs.Prelude.{nat_le, Contains, sum_by}
use Rattle.std.specs.List.Sorted.{IsPermutation, IsNonDecreasingBy}
use Rattle.std.proofs.lemmas.List.Sorted.{IsPermutation-sym, sum_by-IsPermutation}
use Rattle.std.proofs.lemmas.List.Sums.{sum_by-cons}
use Rattle.std.proofs.lemmas.List.{get_or-map, length-map}
use Rattle.std.proofs.lemmas.List.Elements.{All-contains_itself}
use Rattle.std.proofs.lemmas.Map.Views.{All-map-IsPermutation}
use Rattle.std.proofs.lemmas.Bool.Decides.{nat_tests}
use Rattle.sr_model.specs.Assignment.{holds_number}
use Rattle.sr_model.specs.Meeting.{Group}
use Rattle.sr_model.proofs.Soundness.{by_test}
use Rattle.sr_trimming.specs.CoreFirst.{put_in, rising}
use Rattle.sr_steps.specs.declared.place.GroupPlace.{GroupPlace}
use Rattle.sr_steps.specs.Groups.{group_of}
use Rattle.sr_steps.specs.Adding.{AreOfDistinct}

contains-cons : {X : Type 0} (x : X) (xs : List X) (q : X) → Contains (x ∷ xs) q → (x ≡ q) ⊎ Contains xs q
contains-cons x xs q (zero, h, e) = inl e
contains-cons x xs q (suc k, h, e) = inr (k, omega arith, e)

contains-here : {X : Type 0} (x : X) (xs : List X) → Contains (x ∷ xs) x
contains-here x xs = (0, omega arith, refl)

contains-later : {X : Type 0} (x : X) (xs : List X) (q : X) → Contains xs q → Contains (x ∷ xs) q
contains-later x xs q m = (suc m.0, omega (arith, m.1), m.2)

contains-none : {X : Type 0} (q : X) → Contains [] q → ⊥
contains-none q m = omega (arith, m.1)

-- each number is below those of the later groups
abbrev Rises : List Group → Type 0
Rises [] = Unit {0}
Rises (x ∷ xs) = ((q : Group) → Contains xs q → x.0 < q.0) × Rises xs

same_rising : (xs ys : List Group) → Rises xs → Rises ys → ((q : Group) → Contains xs q → Contains ys q) → ((q : Group) → Contains ys q → Contains xs q) → xs ≡ ys
same_rising [] [] r s f g = refl
same_rising [] (y ∷ ys) r s f g = absurd (contains-none y (g y (contains-here y ys)))
same_rising (x ∷ xs) [] r s f g = absurd (contains-none x (f x (contains-here x xs)))
same_rising (x ∷ xs) (y ∷ ys) r s f g =
    let e : x ≡ y = first (contains-cons y ys x (f x (contains-here x xs))) (contains-cons x xs y (g y (contains-here y ys))) in
    let rest : xs ≡ ys = same_rising xs ys r.1 s.1
    (λ q m. let low : x.0 < q.0 = r.0 q m in elim (contains-cons y ys q (f q (contains-later x xs q m))) [ inl h ↦ absurd (let b : x.0 ≡ q.0 = ap (λ z. z.0) (e ∙ h) in omega arith) | inr h ↦ h ])
    (λ q m. let low : y.0 < q.0 = s.0 q m in elim (contains-cons x xs q (g q (contains-later y ys q m))) [ inl h ↦ absurd (let b : y.0 ≡ q.0 = ap (λ z. z.0) (sym e ∙ h) in omega arith) | inr h ↦ h ]) in
    ap (λ z. z ∷ xs) e ∙ ap (λ zs. y ∷ zs) rest
  where
    first : (y ≡ x) ⊎ Contains ys x → (x ≡ y) ⊎ Contains xs y → x ≡ y
    first (inl h) k = sym h
    first (inr h) (inl k) = k
    first (inr h) (inr k) = absurd (let a : y.0 < x.0 = s.0 x h in let b : x.0 < y.0 = r.0 y k in omega arith)

put-from : (g : Group) (ks : List Group) (q : Group) → Contains (put_in g ks) q → (g ≡ q) ⊎ Contains ks q
put-from g [] q m = contains-cons g [] q m
put-from g (k ∷ ks) q m = by_test (nat_le g.0 k.0)
    (λ e. contains-cons g (k ∷ ks) q (rw e at m))
    (λ e. elim (contains-cons k (put_in g ks) q (rw e at m)) [ inl h ↦ inr (subst (λ z. Contains (k ∷ ks) z) h (contains-here k ks)) | inr h ↦ elim (put-from g ks q h) [ inl i ↦ inl i | inr i ↦ inr (contains-later k ks q i) ] ])

put-here : (g : Group) (ks : List Group) → Contains (put_in g ks) g
put-here g [] = contains-here g []
put-here g (k ∷ ks) = by_test (nat_le g.0 k.0) (λ e. rw e (contains-here g (k ∷ ks))) (λ e. rw e (contains-later k (put_in g ks) g (put-here g ks)))

put-later : (g : Group) (ks : List Group) (q : Group) → Contains ks q → Contains (put_in g ks) q
put-later g [] q m = absurd (contains-none q m)
put-later g (k ∷ ks) q m = by_test (nat_le g.0 k.0)
    (λ e. rw e (contains-later g (k ∷ ks) q m))
    (λ e. rw e (elim (contains-cons k ks q m) [ inl h ↦ subst (λ z. Contains (k ∷ put_in g ks) z) h (contains-here k (put_in g ks)) | inr h ↦ contains-later k (put_in g ks) q (put-later g ks q h) ]))

put-rises : (g : Group) (ks : List Group) → Rises ks → ((q : Group) → Contains ks q → g.0 ≡ q.0 → ⊥) → Rises (put_in g ks)
put-rises g [] r f = (λ q m. absurd (contains-none q m), tt)
put-rises g (k ∷ ks) r f =
    let other : g.0 ≡ k.0 → ⊥ = f k (contains-here k ks) in
    by_test (nat_le g.0 k.0)
    (λ e. let low : g.0 < k.0 = grind (arith, nat_tests) in rw e ((λ q m. elim (contains-cons k ks q m) [ inl h ↦ (let b : k.0 ≡ q.0 = ap (λ z. z.0) h in omega arith) | inr h ↦ (let up = r.0 q h in omega arith) ]), r))
    (λ e.
    let low : k.0 < g.0 = grind (arith, nat_tests) in
    rw e ((λ q m. elim (put-from g ks q m) [ inl h ↦ (let b : g.0 ≡ q.0 = ap (λ z. z.0) h in omega arith) | inr h ↦ r.0 q h ]), put-rises g ks r.1 (λ q m. f q (contains-later k ks q m))))

rising-from : (gs : List Group) (q : Group) → Contains (rising gs) q → Contains gs q
rising-from [] q m = m
rising-from (g ∷ gs) q m = elim (put-from g (rising gs) q m) [ inl h ↦ subst (λ z. Contains (g ∷ gs) z) h (contains-here g gs) | inr h ↦ contains-later g gs q (rising-from gs q h) ]

rising-to : (gs : List Group) (q : Group) → Contains gs q → Contains (rising gs) q
rising-to [] q m = m
rising-to (g ∷ gs) q m = elim (contains-cons g gs q m) [ inl h ↦ subst (λ z. Contains (put_in g (rising gs)) z) h (put-here g (rising gs)) | inr h ↦ put-later g (rising gs) q (rising-to gs q h) ]

number-in : (gs : List Group) (q : Group) → Contains gs q → holds_number q.0 (map (λ k. k.0) gs) ≡ true
number-in [] q m = absurd (contains-none q m)
number-in (g ∷ gs) q m = elim (contains-cons g gs q m) [ inl h ↦ (let b : g.0 ≡ q.0 = ap (λ z. z.0) h in grind (arith, nat_tests)) | inr h ↦ grind (arith, number-in gs q h) ]

rising-rises : (gs : List Group) → AreOfDistinct gs → Rises (rising gs)
rising-rises [] a = tt
rising-rises (g ∷ gs) a = put-rises g (rising gs) (rising-rises gs a.1) (λ q m e. let there : holds_number q.0 (map (λ k. k.0) gs) ≡ true = number-in gs q (rising-from gs q m) in let out : holds_number g.0 (map (λ k. k.0) gs) ≡ false = a.0 in absurd (let there' : holds_number g.0 (map (λ k. k.0) gs) ≡ true = subst (λ n. holds_number n (map (λ k. k.0) gs) ≡ true) (sym e) there in cc))

-- how many are of a number
abbrev is_of : ℕ → GroupPlace → ℕ
is_of n g = cond (g.id == n) 1 0

abbrev count : ℕ → List GroupPlace → ℕ
count n xs = sum_by (is_of n) xs

none-of : (hints : List ℕ) (n : ℕ) (xs : List GroupPlace) → holds_number n (map (λ k. k.0) (map (group_of hints) xs)) ≡ false → count n xs ≡ 0
none-of hints n [] h = refl
none-of hints n (x ∷ xs) h = grind (arith, none-of hints n xs, sum_by-cons (is_of n) x xs)

one-of : (hints : List ℕ) (n : ℕ) (xs : List GroupPlace) → AreOfDistinct (map (group_of hints) xs) → count n xs ≤ 1
one-of hints n [] a = omega arith
one-of hints n (x ∷ xs) a = by_test (x.id == n)
    (λ e.
    let is : x.id ≡ n = grind (arith, nat_tests) in
    let none : count n xs ≡ 0 = none-of hints n xs (subst (λ m. holds_number m (map (λ k. k.0) (map (group_of hints) xs)) ≡ false) is a.0) in
    grind (arith, sum_by-cons (is_of n) x xs))
    (λ e. grind (arith, one-of hints n xs a.1, sum_by-cons (is_of n) x xs))

counted : (xs : List GroupPlace) (k : ℕ) (d : GroupPlace) → k < length xs → 1 ≤ count (get_or xs k d).id xs
counted [] k d h = absurd (omega arith)
counted (x ∷ xs) zero d h = let e : (x.id == x.id) ≡ true = grind (arith, nat_tests) in grind (arith, sum_by-cons (is_of x.id) x xs)
counted (x ∷ xs) (suc k) d h =
    let low : 1 ≤ count (get_or xs k d).id xs = counted xs k d (omega arith) in
    omega (arith, sum_by-cons (is_of (get_or xs k d).id) x xs)

sorted-rises : (hints : List ℕ) (ys : List GroupPlace) → IsNonDecreasingBy (λ g. g.id) ys → ((n : ℕ) → count n ys ≤ 1) → Rises (map (group_of hints) ys)
sorted-rises hints [] s c = tt
sorted-rises hints (y ∷ ys) s c = (
  λ q m.
      let within : m.0 < length ys = omega (arith, m.1, length-map ys (group_of hints)) in
      let z : GroupPlace = get_or ys m.0 y in
      let number : z.id ≡ q.0 = ap (λ (g : Group). g.0) (sym (get_or-map (group_of hints) ys m.0 y q within) ∙ m.2) in
      let le : y.id ≤ z.id = s 0 (suc m.0) y (omega arith) (omega arith) in
      let one : 1 ≤ count z.id ys = counted ys m.0 y within in
      let all : count z.id (y ∷ ys) ≤ 1 = c z.id in
      let differ : (y.id == z.id) ≡ false = by_test (y.id == z.id) (λ e. absurd (let here : is_of z.id y ≡ 1 = rw e refl in omega (arith, sum_by-cons (is_of z.id) y ys))) (λ e. e) in
      grind (arith, nat_tests),
  sorted-rises hints ys (λ i j d le h. s (suc i) (suc j) d (omega arith) (omega arith)) (λ n. omega (arith, c n, sum_by-cons (is_of n) y ys)),
)

moved : (f : GroupPlace → Group) (xs ys : List GroupPlace) → IsPermutation xs ys → (q : Group) → Contains (map f ys) q → Contains (map f xs) q
moved f xs ys p q m = subst (λ z. Contains (map f xs) z) m.2 (All-map-IsPermutation f (Contains (map f xs)) xs ys p (All-contains_itself (map f xs)) m.0 q m.1)

-- the groups of sorted places are those of the places in rising order
pub sorted_is_rising : (hints : List ℕ) (xs ys : List GroupPlace) → IsPermutation xs ys → IsNonDecreasingBy (λ g. g.id) ys → AreOfDistinct (map (group_of hints) xs)
    → map (group_of hints) ys ≡ rising (map (group_of hints) xs)
sorted_is_rising hints xs ys p s a = same_rising (map (group_of hints) ys) (rising (map (group_of hints) xs))
    (sorted-rises hints ys s (λ n. let e : count n ys ≡ count n xs = sum_by-IsPermutation (is_of n) xs ys p in omega (arith, one-of hints n xs a)))
    (rising-rises (map (group_of hints) xs) a)
    (λ q m. rising-to (map (group_of hints) xs) q (moved (group_of hints) xs ys p q m))
    (λ q m. moved (group_of hints) ys xs (IsPermutation-sym xs ys p) q (rising-from (map (group_of hints) xs) q m))
