-- The clauses of the formula, one by one.
use Rattle.std.proofs.Common.{◌≡◌, ◌∙◌, ◌⊎◌, inl, inr, ⊎_elim, ◌↔◌, ℕ, zero, suc, ◌+◌, ◌-◌, ◌<◌, ◌≤◌, sym, subst, refl, List, ◌++◌, map, arith}
use Rattle.std.specs.Prelude.{flat_map, Contains}
use Rattle.std.specs.List.{range_with_len}
use Rattle.std.proofs.lemmas.Bool.{cases_eq}
use Rattle.std.proofs.lemmas.List.FromFn.{length-map-range_with_len, get_or-map-range_with_len}
use Rattle.std.proofs.lemmas.List.Elements.{Contains-append_left, Contains-append_right, Contains-append_cases}
use Rattle.sr_base.specs.Literal.{Literal}
use Rattle.sr_holes.specs.Holes.{from_to, in_some_hole, not_both, not_with_later, at_most_one, pigeonhole_formula}
use Rattle.sr_holes.specs.Laws.{IsPigeon, IsOfPigeon, IsOfPair}

-- an item that is made of one of the numbers
pub record IsMade {A : Type 0} (f : ℕ → A) (a m : ℕ) (x : A) : Type 0 where
  pub at : ℕ
  pub low : a ≤ at
  pub high : at < a + m
  pub is : x ≡ f at

pub made_in : {A : Type 0} (f : ℕ → A) (a m k : ℕ) → a ≤ k → k < a + m → Contains (map f (range_with_len a m)) (f k)
made_in f a m k low high =
    (k - a, omega (arith, length-map-range_with_len f a m), get_or-map-range_with_len f a m (k - a) k (f k) (omega arith) (omega arith))

pub in_made : {A : Type 0} (f : ℕ → A) (a m : ℕ) (x : A) → Contains (map f (range_with_len a m)) x → IsMade f a m x
in_made f a m x c =
    let within : c.0 < m = omega (arith, length-map-range_with_len f a m) in
    record { at = a + c.0; low = omega arith; high = omega arith; is = sym c.2 ∙ get_or-map-range_with_len f a m c.0 (a + c.0) x within refl }

-- an item of a list that is made of one of the numbers
pub record IsWithin {A : Type 0} (f : ℕ → List A) (a m : ℕ) (x : A) : Type 0 where
  pub at : ℕ
  pub low : a ≤ at
  pub high : at < a + m
  pub has : Contains (f at) x

pub within_in : {A : Type 0} (f : ℕ → List A) (a m k : ℕ) (x : A) → a ≤ k → k < a + m → Contains (f k) x → Contains (flat_map f (range_with_len a m)) x
within_in f a zero k x low high c = absurd (omega arith)
within_in f a (suc m) k x low high c = ⊎_elim first (λ ne. Contains-append_right (f a) (flat_map f (range_with_len (a + 1) m)) x (within_in f (a + 1) m k x (omega arith) (omega arith) c)) (cases_eq a k)
  where
    first : a ≡ k → Contains (flat_map f (range_with_len a (suc m))) x
    first e = Contains-append_left (f a) (flat_map f (range_with_len (a + 1) m)) x (let P : ℕ → Type 0 = λ i. Contains (f i) x in subst P (sym e) c)

pub in_within : {A : Type 0} (f : ℕ → List A) (a m : ℕ) (x : A) → Contains (flat_map f (range_with_len a m)) x → IsWithin f a m x
in_within f a zero x c = absurd (omega (arith, c.1))
in_within f a (suc m) x c = ⊎_elim here (λ h. later (in_within f (a + 1) m x h)) (Contains-append_cases (f a) (flat_map f (range_with_len (a + 1) m)) x c)
  where
    here : Contains (f a) x → IsWithin f a (suc m) x
    here h = record { at = a; low = omega arith; high = omega arith; has = h }

    later : IsWithin f (a + 1) m x → IsWithin f a (suc m) x
    later r = record { at = r.at; low = omega arith; high = omega arith; has = r.has }

-- the clauses of one hole
pair_in : (n h i j : ℕ) → IsPigeon n i → i < j → j ≤ n + 1 → Contains (at_most_one n h) (not_both n h i j)
pair_in n h i j p order high =
    within_in (not_with_later n h) 1 (n + 1 - 1) i (not_both n h i j) p.0 (omega arith) (made_in (not_both n h i) (i + 1) (n + 1 + 1 - (i + 1)) j (omega arith) (omega arith))

pigeon_in : (n : ℕ) (c : List Literal) → IsOfPigeon n c → Contains (pigeonhole_formula n).clauses c
unfolding pigeonhole_formula
pigeon_in n c k =
    let made : Contains (map (in_some_hole n) (from_to 1 (n + 1))) (in_some_hole n k.pigeon) = made_in (in_some_hole n) 1 (n + 1 + 1 - 1) k.pigeon k.is_pigeon.0 (omega arith) in
    let P : List Literal → Type 0 = λ d. Contains (map (in_some_hole n) (from_to 1 (n + 1)) ++ flat_map (at_most_one n) (from_to 1 n)) d in
    subst P (sym k.is) (Contains-append_left (map (in_some_hole n) (from_to 1 (n + 1))) (flat_map (at_most_one n) (from_to 1 n)) (in_some_hole n k.pigeon) made)

pair_of_hole_in : (n : ℕ) (c : List Literal) → IsOfPair n c → Contains (pigeonhole_formula n).clauses c
unfolding pigeonhole_formula
pair_of_hole_in n c k =
    let d : List Literal = not_both n k.hole k.first k.second in
    let at : Contains (at_most_one n k.hole) d = pair_in n k.hole k.first k.second k.is_first k.order k.is_second.1 in
    let all : Contains (flat_map (at_most_one n) (from_to 1 n)) d = within_in (at_most_one n) 1 (n + 1 - 1) k.hole d k.is_hole.0 (omega arith) at in
    let P : List Literal → Type 0 = λ d. Contains (map (in_some_hole n) (from_to 1 (n + 1)) ++ flat_map (at_most_one n) (from_to 1 n)) d in
    subst P (sym k.is) (Contains-append_right (map (in_some_hole n) (from_to 1 (n + 1))) (flat_map (at_most_one n) (from_to 1 n)) d all)

of_pigeon : (n : ℕ) (c : List Literal) → Contains (map (in_some_hole n) (from_to 1 (n + 1))) c → IsOfPigeon n c
of_pigeon n c m = let r = in_made (in_some_hole n) 1 (n + 1 + 1 - 1) c m in record { pigeon = r.at; is_pigeon = (r.low, omega arith); is = r.is }

of_pair : (n : ℕ) (c : List Literal) → Contains (flat_map (at_most_one n) (from_to 1 n)) c → IsOfPair n c
of_pair n c m =
    let a = in_within (at_most_one n) 1 (n + 1 - 1) c m in
    let b = in_within (not_with_later n a.at) 1 (n + 1 - 1) c a.has in
    let d = in_made (not_both n a.at b.at) (b.at + 1) (n + 1 + 1 - (b.at + 1)) c b.has in
    record { hole = a.at; first = b.at; second = d.at; is_hole = (a.low, omega arith); is_first = (b.low, omega arith); is_second = (omega arith, omega arith); order = omega arith; is = d.is }

in_formula : (n : ℕ) (c : List Literal) → Contains (pigeonhole_formula n).clauses c → IsOfPigeon n c ⊎ IsOfPair n c
unfolding pigeonhole_formula
in_formula n c m =
    ⊎_elim (λ k. inl (of_pigeon n c k)) (λ k. inr (of_pair n c k)) (Contains-append_cases (map (in_some_hole n) (from_to 1 (n + 1))) (flat_map (at_most_one n) (from_to 1 n)) c m)

pub has_clauses : (n : ℕ) (c : List Literal) → Contains (pigeonhole_formula n).clauses c ↔ (IsOfPigeon n c ⊎ IsOfPair n c)
has_clauses n c = (in_formula n c, ⊎_elim (pigeon_in n c) (pair_of_hole_in n c))
