-- The first clash among the entries.
use Rattle.std.proofs.Common.{◌≡◌, ◌≢◌, ◌<◌, ◌≤◌, ◌-◌, ◌⊎◌, inl, inr, ℕ, suc, zero, true, false, not, cond, Some, None, ◌==◌, ◌||◌, List, [], ◌∷◌, refl, sym, ◌∙◌, ap, subst, arith, length, get_or, take}
use Rattle.std.proofs.lemmas.Bool.Decides.{nat_tests}
use Rattle.std.proofs.lemmas.List.{get_or_default}
use Rattle.sr_base.specs.Literal.{Literal, plus, minus, variable, complement, same, has}
use Rattle.std.specs.Prelude.{nat_lt}
use Rattle.sr_watch.specs.State.{value_in}
use Rattle.sr_base.proofs.Literals.{same_tells, complement_twice}
use Rattle.sr_model.specs.Substitution.{has_pair}
use Rattle.sr_model.proofs.Soundness.{by_test}
use Rattle.sr_model.proofs.Chains.{pair_from}
use Rattle.sr_watch.specs.State.{State, lit_at, reason_at, assumed, assumed_in, IsSound}
use Rattle.sr_watch.specs.Running.{AreNews, NoClash, IsClash, ClashesWith}
use Rattle.sr_watch.specs.Trail.{Entries, AreEntries, place_in, IsClashAt}
use Rattle.sr_watch.proofs.Entries.{by_eq, no_assumed_pair}
use Rattle.sr_watch.proofs.Bounds.{assumed_among}
use Rattle.sr_watch.proofs.Looking.{in_take}
use Rattle.sr_watch.proofs.Answering.{entry_assumed}
use Rattle.sr_watch.proofs.Tables.{in_list, place_has}
use Rattle.sr_watch.proofs.Marking.{variable_complement}

pub item_within : (e : Entries) (i : ℕ) (l : Literal) → AreEntries e → i < length e.lits → l ≡ get_or e.lits i l → variable l ≤ e.vars
item_within e i l a lt is = a.within l (in_list e.lits i l lt is)

pub neg_within : (e : Entries) (i : ℕ) (l : Literal) → AreEntries e → i < length e.lits → l ≡ get_or e.lits i l → variable (complement l) ≤ e.vars
neg_within e i l a lt is = omega (arith, variable_complement l, item_within e i l a lt is)

-- without a clash no assumed literal's complement is true
pub no_clash : (ls : List Literal) (rs : List ℕ) (n : ℕ) → has_pair ls ≡ false → n ≤ length ls → NoClash ls rs n
no_clash ls rs n p le i lt d = by_test (has (complement (get_or ls i (plus 0))) (assumed_in ls rs))
    (λ t. let one : has (get_or ls i (plus 0)) ls ≡ true = in_list ls i (get_or ls i (plus 0)) (omega arith) (get_or_default ls i (plus 0) (get_or ls i (plus 0)) (omega arith)) in
    let two : has (complement (get_or ls i (plus 0))) ls ≡ true = assumed_among ls rs (complement (get_or ls i (plus 0))) t in
    let q : has_pair ls ≡ true = pair_from ls (get_or ls i (plus 0), one, two) in absurd cc)
    (λ f. f)

-- the literal of the first clash is assumed, and its complement is true
pub clash_pair : (s : State) (c : ℕ) (l : Literal) → IsSound s → IsClashAt s.lits c → c ≢ 0 → l ≡ get_or s.lits (c - 1) l → (c - 1 < length s.lits) × (has l (assumed s) ≡ true) × (has (complement l) s.lits ≡ true) × (has l s.lits ≡ true)
clash_pair s c l sound x ne is =
    let p = x.some (omega arith) in
    let at : lit_at s (c - 1) ≡ l = get_or_default s.lits (c - 1) (plus 0) l p.within ∙ sym is in
    let early : has (complement l) (take (c - 1) s.lits) ≡ true = subst (λ k. has (complement k) (take (c - 1) s.lits) ≡ true) at p.complement in
    let zero_reason : reason_at s (c - 1) ≡ 0 = by_eq (reason_at s (c - 1)) 0 (λ z. z) (λ d. let n : has (complement (lit_at s (c - 1))) (take (c - 1) s.lits) ≡ false = (sound.news (c - 1) p.within d).not_false in let m : has (complement (lit_at s (c - 1))) (take (c - 1) s.lits) ≡ true = p.complement in absurd cc) in (
      p.within,
      subst (λ k. has k (assumed s) ≡ true) at (entry_assumed s.lits s.reasons (c - 1) p.within (sym sound.sizes) zero_reason),
      in_take s.lits (c - 1) (complement l) early,
      in_list s.lits (c - 1) l p.within is,
    )

-- the first place of a true literal
pub place_at : (ls : List Literal) (k : Literal) → has k ls ≡ true → (0 < place_in ls k) × (place_in ls k - 1 < length ls) × (get_or ls (place_in ls k - 1) (plus 0) ≡ k)
place_at [] k h = absurd cc
place_at (l ∷ ls) k h = by_test (same l k)
    (λ t. let is : l ≡ k = grind (arith, same_tells l k) in rw t (omega arith, omega arith, is))
    (λ f. let w = place_at ls k (grind arith) in
    let z : (place_in ls k == 0) ≡ false = let p = w.0 in grind (arith, nat_tests) in
    rw (f, z) (omega arith, omega (arith, w.1), later (place_in ls k) w.0 w.2))
  where
    later : (n : ℕ) → 0 < n → get_or ls (n - 1) (plus 0) ≡ k → get_or (l ∷ ls) (suc n - 1) (plus 0) ≡ k
    later zero p e = absurd (omega arith)
    later (suc n) p e = let q : suc (suc n) - 1 ≡ suc n = omega arith in let r : suc n - 1 ≡ n = omega arith in rw q (rw r at e)

-- a true literal that isn't assumed was derived at its first place
pub place_derived : (s : State) (k : Literal) → IsSound s → has k s.lits ≡ true → has k (assumed s) ≡ false → reason_at s (place_in s.lits k - 1) ≢ 0
place_derived s k sound h n z =
    let w = place_at s.lits k h in
    let a : has k (assumed s) ≡ true = subst (λ j. has j (assumed s) ≡ true) w.2 (entry_assumed s.lits s.reasons (place_in s.lits k - 1) w.1 (sym sound.sizes) z) in
    absurd cc

-- an entry is among the first ones, also at its first place
entry_in : (ls : List Literal) (i n : ℕ) → i < n → i < length ls → has (get_or ls i (plus 0)) (take n ls) ≡ true
entry_in [] i n a b = absurd (omega arith)
entry_in (l ∷ ls) i zero a b = absurd (omega arith)
entry_in (l ∷ ls) zero (suc n) a b = grind (arith, same_tells l l)
entry_in (l ∷ ls) (suc i) (suc n) a b = let h = entry_in ls i n (omega arith) (omega arith) in by_test (same l (get_or ls i (plus 0))) (λ t. rw t refl) (λ t. rw t h)

pub first_place : (ls : List Literal) (i : ℕ) → i < length ls → has (get_or ls i (plus 0)) (take i ls) ≡ false → place_in ls (get_or ls i (plus 0)) ≡ suc i
first_place [] i lt h = absurd (omega arith)
first_place (l ∷ ls) zero lt h = let t : same l l ≡ true = grind (arith, same_tells l l) in rw t refl
first_place (l ∷ ls) (suc i) lt h =
    let f : same l (get_or ls i (plus 0)) ≡ false = by_test (same l (get_or ls i (plus 0))) (λ t. let q : true ≡ false = rw t at h in absurd cc) (λ f. f) in
    let g : has (get_or ls i (plus 0)) (take i ls) ≡ false = rw f at h in
    let p : place_in ls (get_or ls i (plus 0)) ≡ suc i = first_place ls i (omega arith) g in
    let z : (suc i == 0) ≡ false = grind (arith, nat_tests) in
    rw (f, p, z) refl

-- no entry clashes with one before the first whose complement comes before it
pub no_early_clash : (ls : List Literal) (rs : List ℕ) (n i j : ℕ) → AreNews ls rs → IsClashAt ls n → n ≢ 0 → i < n - 1 → ClashesWith ls rs j i → ⊥
no_early_clash ls rs n i j news x ne lt c =
    let p = x.some (omega (arith, ne)) in
    let none : has_pair (take (n - 1) ls) ≡ false = p.none_before in
    let within = p.within in
    by_lt j i
    (λ before.
    let one : has (get_or ls j (plus 0)) (take (n - 1) ls) ≡ true = entry_in ls j (n - 1) (omega arith) c.within in
    let two : has (complement (get_or ls j (plus 0))) (take (n - 1) ls) ≡ true = rw c.complement (entry_in ls i (n - 1) lt (omega arith)) in
    let q : has_pair (take (n - 1) ls) ≡ true = pair_from (take (n - 1) ls) (get_or ls j (plus 0), one, two) in cc)
    (λ z. c.derived (subst (λ k. get_or rs k 0 ≡ 0) (sym z) c.assumed))
    (λ later.
    let two : has (complement (get_or ls j (plus 0))) (take j ls) ≡ true = rw c.complement (entry_in ls i j later (omega arith)) in
    let q : has (complement (get_or ls j (plus 0))) (take j ls) ≡ false = (news j c.within c.derived).not_false in cc)
  where
    by_lt : {P : Type 0} (a b : ℕ) → (a < b → P) → (a ≡ b → P) → (b < a → P) → P
    by_lt a b f g h = by_test (nat_lt a b) (λ t. f (grind (arith, nat_tests))) (λ t. by_eq a b g (λ d. h (let q : b ≤ a = grind (arith, nat_tests) in omega (arith, d))))

-- where no assumed entry clashes with one of the first, there is no clash among them
pub no_clash_before : (ls : List Literal) (rs : List ℕ) (n : ℕ) → length rs ≡ length ls → n ≤ length ls → ((j i : ℕ) → i < length ls → ClashesWith ls rs j i → n ≤ j) → NoClash ls rs n
no_clash_before ls rs n size le f j lt ne = no_assumed_pair ls rs (complement (get_or ls j (plus 0))) (length ls) size (omega arith) (λ i within z is. let w = f j i within (record { within = omega arith; derived = ne; assumed = z; complement = sym is }) in omega arith)

-- the first place of the literal that an assumed entry clashes with
pub clash_place : (ls : List Literal) (rs : List ℕ) (i j : ℕ) → AreNews ls rs → ClashesWith ls rs j i → place_in ls (complement (get_or ls i (plus 0))) ≡ suc j
clash_place ls rs i j news c =
    let is : get_or ls j (plus 0) ≡ complement (get_or ls i (plus 0)) = sym (complement_twice (get_or ls j (plus 0))) ∙ ap complement c.complement in
    rw (← is) (first_place ls j c.within (news j c.within c.derived).not_true)

pub clash_is : (ls : List Literal) (rs : List ℕ) (i : ℕ) → length rs ≡ length ls → i < length ls → get_or rs i 0 ≡ 0 → place_in ls (complement (get_or ls i (plus 0))) ≢ 0 → get_or rs (place_in ls (complement (get_or ls i (plus 0))) - 1) 0 ≢ 0
    → IsClash ls rs (place_in ls (complement (get_or ls i (plus 0))) - 1)
clash_is ls rs i size lt z some ne =
    let k : Literal = complement (get_or ls i (plus 0)) in
    let h : has (complement (get_or ls i (plus 0))) ls ≡ true = place_has ls (complement (get_or ls i (plus 0))) ∙ ap not (let f : (place_in ls (complement (get_or ls i (plus 0))) == 0) ≡ false = grind (arith, nat_tests) in f) in
    let w = place_at ls (complement (get_or ls i (plus 0))) h in
    record {
      derived = ne;
      assumed = rw (w.2, complement_twice (get_or ls i (plus 0))) (entry_assumed ls rs i lt (sym size) z);
    }

-- the value of a literal, by the first places of it and of its complement
other : (k : Literal) → same k (complement k) ≡ false
other (plus v) = grind (arith, same_tells (plus v) (minus v))
other (minus v) = grind (arith, same_tells (minus v) (plus v))

not_both : (k l : Literal) → same k l ≡ true → same k (complement l) ≡ false
not_both k l h = let is : k ≡ l = grind (arith, same_tells k l) in subst (λ j. same k (complement j) ≡ false) is (other k)

pub value_none : (ls : List Literal) (l : Literal) → place_in ls l ≡ 0 → place_in ls (complement l) ≡ 0 → value_in ls l ≡ None
value_none [] l a b = refl
value_none (k ∷ ls) l a b = by_test (same k l)
    (λ t. let q : 1 ≡ 0 = rw t at a in absurd (omega arith))
    (λ f. by_test (same k (complement l))
    (λ t. let q : 1 ≡ 0 = rw t at b in absurd (omega arith))
    (λ g. rw (f, g) (value_none ls l (less l f a) (less (complement l) g b))))
  where
    less : (j : Literal) → same k j ≡ false → place_in (k ∷ ls) j ≡ 0 → place_in ls j ≡ 0
    less j d e = by_test (place_in ls j == 0) (λ t. grind (arith, nat_tests)) (λ t. let q : suc (place_in ls j) ≡ 0 = rw (d, t) at e in absurd (omega arith))

-- the place in a longer list
place_less : (k j : Literal) (ls : List Literal) → same k j ≡ false → ((place_in (k ∷ ls) j ≡ 0) × (place_in ls j ≡ 0)) ⊎ ((place_in (k ∷ ls) j ≡ suc (place_in ls j)) × (0 < place_in ls j))
place_less k j ls d = by_test (place_in ls j == 0)
    (λ t. let z : place_in ls j ≡ 0 = grind (arith, nat_tests) in inl (rw (d, t) refl, z))
    (λ t. let z : 0 < place_in ls j = grind (arith, nat_tests) in inr (rw (d, t) refl, z))

pub value_true : (ls : List Literal) (l : Literal) → 0 < place_in ls l → (place_in ls (complement l) ≡ 0) ⊎ (place_in ls l < place_in ls (complement l)) → value_in ls l ≡ Some true
value_true [] l a b = absurd (omega arith)
value_true (k ∷ ls) l a b = by_test (same k l)
    (λ t. rw t refl)
    (λ f. by_test (same k (complement l))
    (λ t. absurd (first t b (place_less k l ls f)))
    (λ g. rw (f, g) (value_true ls l (rest (place_less k l ls f)) (both (place_less k l ls f) (place_less k (complement l) ls g) b))))
  where
    rest : ((place_in (k ∷ ls) l ≡ 0) × (place_in ls l ≡ 0)) ⊎ ((place_in (k ∷ ls) l ≡ suc (place_in ls l)) × (0 < place_in ls l)) → 0 < place_in ls l
    rest (inl e) = absurd (omega (arith, e.0, a))
    rest (inr e) = e.1

    first : same k (complement l) ≡ true → (place_in (k ∷ ls) (complement l) ≡ 0) ⊎ (place_in (k ∷ ls) l < place_in (k ∷ ls) (complement l)) → ((place_in (k ∷ ls) l ≡ 0) × (place_in ls l ≡ 0)) ⊎ ((place_in (k ∷ ls) l ≡ suc (place_in ls l)) × (0 < place_in ls l)) → ⊥
    first t (inl z) e = let q : place_in (k ∷ ls) (complement l) ≡ 1 = rw t refl in absurd (omega (arith, q, z))
    first t (inr z) (inl e) = omega (arith, e.0, a)
    first t (inr z) (inr e) = let q : place_in (k ∷ ls) (complement l) ≡ 1 = rw t refl in let r : 1 < place_in (k ∷ ls) l = omega (arith, e.0, e.1) in absurd (omega (arith, q, z, r))

    both : ((place_in (k ∷ ls) l ≡ 0) × (place_in ls l ≡ 0)) ⊎ ((place_in (k ∷ ls) l ≡ suc (place_in ls l)) × (0 < place_in ls l)) → ((place_in (k ∷ ls) (complement l) ≡ 0) × (place_in ls (complement l) ≡ 0)) ⊎ ((place_in (k ∷ ls) (complement l) ≡ suc (place_in ls (complement l))) × (0 < place_in ls (complement l)))
        → (place_in (k ∷ ls) (complement l) ≡ 0) ⊎ (place_in (k ∷ ls) l < place_in (k ∷ ls) (complement l)) → (place_in ls (complement l) ≡ 0) ⊎ (place_in ls l < place_in ls (complement l))
    both (inl e) d z = absurd (omega (arith, e.0, a))
    both (inr e) (inl d) z = inl d.1
    both (inr e) (inr d) (inl z) = absurd (omega (arith, d.0, z))
    both (inr e) (inr d) (inr z) = inr (omega (arith, d.0, e.0, z))

-- the complement's value
pub value_false : (ls : List Literal) (l : Literal) → value_in ls (complement l) ≡ Some true → value_in ls l ≡ Some false
value_false [] l h = absurd cc
value_false (k ∷ ls) l h = by_test (same k (complement l))
    (λ t. let f : same k l ≡ false = by_test (same k l) (λ u. let w : same k (complement l) ≡ false = not_both k l u in absurd cc) (λ u. u) in rw (f, t) refl)
    (λ f. by_test (same k l)
    (λ t. let c : same k (complement (complement l)) ≡ true = subst (λ j. same k j ≡ true) (sym (complement_twice l)) t in
    let q : Some false ≡ Some true = rw (f, c) at h in absurd cc)
    (λ g. let c : same k (complement (complement l)) ≡ false = subst (λ j. same k j ≡ false) (sym (complement_twice l)) g in
    let q : value_in ls (complement l) ≡ Some true = rw (f, c) at h in rw (g, f) (value_false ls l q)))

-- a literal and its complement have different first places
pub places_differ : (ls : List Literal) (l : Literal) → 0 < place_in ls l → place_in ls l ≡ place_in ls (complement l) → ⊥
places_differ ls l p e =
    let one : has l ls ≡ true = place_has ls l ∙ ap not (let z : (place_in ls l == 0) ≡ false = grind (arith, nat_tests) in z) in
    let two : has (complement l) ls ≡ true = place_has ls (complement l) ∙ ap not (let z : (place_in ls (complement l) == 0) ≡ false = grind (arith, nat_tests) in z) in
    let is : l ≡ complement l = sym (place_at ls l one).2 ∙ ap (λ n. get_or ls (n - 1) (plus 0)) e ∙ (place_at ls (complement l) two).2 in
    let f : same l (complement l) ≡ false = other l in absurd (grind (arith, same_tells l (complement l)))

pub value_by : (ls : List Literal) (l : Literal) (t f : ℕ) → t ≡ place_in ls l → f ≡ place_in ls (complement l) → value_in ls l ≡ cond (t == 0) (cond (f == 0) None (Some false)) (cond ((f == 0) || nat_lt t f) (Some true) (Some false))
value_by ls l t f a b = by_test (t == 0)
    (λ x. by_test (f == 0)
    (λ y. rw (x, y) (value_none ls l (sym a ∙ grind (arith, nat_tests)) (sym b ∙ grind (arith, nat_tests))))
    (λ y. let p : 0 < place_in ls (complement l) = (let q : 0 < f = grind (arith, nat_tests) in omega (arith, b)) in
    let z : place_in ls (complement (complement l)) ≡ 0 = ap (place_in ls) (complement_twice l) ∙ sym a ∙ grind (arith, nat_tests) in
    rw (x, y) (value_false ls l (value_true ls (complement l) p (inl z)))))
    (λ x. let p : 0 < place_in ls l = (let q : 0 < t = grind (arith, nat_tests) in omega (arith, a)) in
    by_test (f == 0)
    (λ y. rw (x, y) (value_true ls l p (inl (sym b ∙ grind (arith, nat_tests)))))
    (λ y. by_test (nat_lt t f)
    (λ z. rw (x, y, z) (value_true ls l p (inr (let q : t < f = grind (arith, nat_tests) in omega (arith, a, b)))))
    (λ z. let ge : f ≤ t = grind (arith, nat_tests) in
    let pos : 0 < f = grind (arith, nat_tests) in
    let ne : place_in ls l ≡ place_in ls (complement l) → ⊥ = places_differ ls l p in
    let lt : place_in ls (complement l) < place_in ls (complement (complement l)) = rw complement_twice (omega (arith, a, b, ge, ne)) in
    rw (x, y, z) (value_false ls l (value_true ls (complement l) (omega (arith, b, pos)) (inr lt))))))
