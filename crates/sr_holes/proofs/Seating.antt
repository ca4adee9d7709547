-- Assignments that satisfy the formula.
use Rattle.std.proofs.Common.{◌≡◌, ◌∙◌, ◌⊎◌, inl, inr, ⊎_elim, ℕ, zero, suc, ◌+◌, ◌-◌, ◌<◌, ◌≤◌, Bool, true, false, not, ◌||◌, sym, ap, refl, List, [], ◌∷◌, map, arith}
use Rattle.std.specs.Prelude.{Contains}
use Rattle.std.specs.List.{range_with_len}
use Rattle.std.proofs.lemmas.Bool.{cases_eq, cases_order, and_parts, and_from, or_cases, or_left, or_right, false≢true, false_from_ne_true}
use Rattle.sr_base.specs.Literal.{Literal}
use Rattle.sr_model.specs.Assignment.{holds_number, satisfies, satisfies_all, Unsat}
use Rattle.sr_holes.specs.Holes.{seat, in_hole, in_some_hole, not_both, pigeonhole_formula}
use Rattle.sr_holes.specs.Laws.{IsPigeon, IsHole, IsOfPigeon, IsOfPair, Sits, IsSeating}
use Rattle.sr_holes.proofs.Members.{has_clauses}
use Rattle.sr_holes.proofs.Principle.{no_seating}

-- each clause is satisfied
first_or_later : (c d : List Literal) (cs : List (List Literal)) → Contains (d ∷ cs) c → (d ≡ c) ⊎ Contains cs c
first_or_later c d cs (zero, within, is) = inl is
first_or_later c d cs (suc k, within, is) = inr (k, omega arith, is)

pub each_satisfied : (t : List ℕ) (cs : List (List Literal)) → satisfies_all t cs ≡ true → (c : List Literal) → Contains cs c → satisfies t c ≡ true
each_satisfied t [] all c m = absurd (omega (arith, m.1))
each_satisfied t (d ∷ cs) all c m =
    let parts = and_parts (satisfies t d) (satisfies_all t cs) all in
    ⊎_elim (λ e. ap (satisfies t) (sym e) ∙ parts.0) (each_satisfied t cs parts.1 c) (first_or_later c d cs m)

pub all_satisfied : (t : List ℕ) (cs : List (List Literal)) → ((c : List Literal) → Contains cs c → satisfies t c ≡ true) → satisfies_all t cs ≡ true
all_satisfied t [] each = refl
all_satisfied t (d ∷ cs) each =
    and_from (satisfies t d) (satisfies_all t cs) (each d (0, omega arith, refl)) (all_satisfied t cs (λ c m. each c (suc m.0, omega (arith, m.1), m.2)))

-- the clause of a pigeon
sits_somewhere : (n : ℕ) (t : List ℕ) (p a m : ℕ) → satisfies t (map (in_hole n p) (range_with_len a m)) ≡ true → (h : ℕ) × (a ≤ h) × (h < a + m) × Sits n t p h
sits_somewhere n t p a zero s = absurd (false≢true s)
sits_somewhere n t p a (suc m) s =
    ⊎_elim (λ e. (a, omega arith, omega arith, e)) (λ e. later (sits_somewhere n t p (a + 1) m e)) (or_cases (holds_number (seat n p a) t) (satisfies t (map (in_hole n p) (range_with_len (a + 1) m))) s)
  where
    later : (h : ℕ) × (a + 1 ≤ h) × (h < a + 1 + m) × Sits n t p h → (h : ℕ) × (a ≤ h) × (h < a + suc m) × Sits n t p h
    later r = (r.0, omega (arith, r.1), omega (arith, r.2), r.3)

somewhere_sits : (n : ℕ) (t : List ℕ) (p a m h : ℕ) → a ≤ h → h < a + m → Sits n t p h → satisfies t (map (in_hole n p) (range_with_len a m)) ≡ true
somewhere_sits n t p a zero h low high s = absurd (omega arith)
somewhere_sits n t p a (suc m) h low high s =
    ⊎_elim (λ e. or_left (holds_number (seat n p a) t) (satisfies t (map (in_hole n p) (range_with_len (a + 1) m))) (ap (λ k. holds_number (seat n p k) t) e ∙ s))
    (λ ne. or_right (holds_number (seat n p a) t) (satisfies t (map (in_hole n p) (range_with_len (a + 1) m))) (somewhere_sits n t p (a + 1) m h (omega arith) (omega arith) s)) (cases_eq a h)

-- the clause of a pair
not_both_sit : (a b : Bool) → (not a || (not b || false)) ≡ true → a ≡ true → b ≡ true → ⊥
not_both_sit true true s x y = false≢true s
not_both_sit true false s x y = false≢true y
not_both_sit false b s x y = false≢true x

one_is_away : (a b : Bool) → (a ≡ true → b ≡ true → ⊥) → (not a || (not b || false)) ≡ true
one_is_away true true ne = absurd (ne refl refl)
one_is_away true false ne = refl
one_is_away false b ne = refl

pub seats_from : (n : ℕ) (t : List ℕ) → satisfies_all t (pigeonhole_formula n).clauses ≡ true → IsSeating n t
seats_from n t all = record { each = each; apart = apart }
  where
    has : (c : List Literal) → IsOfPigeon n c ⊎ IsOfPair n c → satisfies t c ≡ true
    has c k = each_satisfied t (pigeonhole_formula n).clauses all c ((has_clauses n c).1 k)

    each : (p : ℕ) → IsPigeon n p → (h : ℕ) × IsHole n h × Sits n t p h
    each p i =
        let s = sits_somewhere n t p 1 (n + 1 - 1) (has (in_some_hole n p) (inl (record { pigeon = p; is_pigeon = i; is = refl }))) in
        (s.0, (s.1, omega (arith, s.2)), s.3)

    later : (h p q : ℕ) → IsHole n h → IsPigeon n p → IsPigeon n q → p < q → Sits n t p h → Sits n t q h → ⊥
    later h p q ih ip iq order x y =
        not_both_sit (holds_number (seat n p h) t) (holds_number (seat n q h) t)
        (has (not_both n h p q) (inr (record { hole = h; first = p; second = q; is_hole = ih; is_first = ip; is_second = iq; order = order; is = refl }))) x y

    apart : (h p q : ℕ) → IsHole n h → IsPigeon n p → IsPigeon n q → Sits n t p h → Sits n t q h → p ≡ q
    apart h p q ih ip iq x y = ⊎_elim (λ e. e) (λ o. absurd (⊎_elim (λ lt. later h p q ih ip iq lt x y) (λ gt. later h q p ih iq ip gt y x) o)) (cases_order p q)

pub seating_satisfies : (n : ℕ) (t : List ℕ) → IsSeating n t → satisfies_all t (pigeonhole_formula n).clauses ≡ true
seating_satisfies n t s = all_satisfied t (pigeonhole_formula n).clauses (λ c m. ⊎_elim (of_pigeon c) (of_pair c) ((has_clauses n c).0 m))
  where
    of_pigeon : (c : List Literal) → IsOfPigeon n c → satisfies t c ≡ true
    of_pigeon c k = let r = s.each k.pigeon k.is_pigeon in ap (satisfies t) k.is ∙ somewhere_sits n t k.pigeon 1 (n + 1 - 1) r.0 r.1.0 (omega (arith, r.1.1)) r.2

    of_pair : (c : List Literal) → IsOfPair n c → satisfies t c ≡ true
    of_pair c k =
        ap (satisfies t) k.is ∙ one_is_away (holds_number (seat n k.first k.hole) t) (holds_number (seat n k.second k.hole) t)
        (λ x y. let e = s.apart k.hole k.first k.second k.is_hole k.is_first k.is_second x y in omega (arith, k.order))

pub dont_fit : (n : ℕ) → Unsat (pigeonhole_formula n).clauses
dont_fit n t = false_from_ne_true (satisfies_all t (pigeonhole_formula n).clauses) (λ all. let s = seats_from n t all in no_seating n (Sits n t) s.each s.apart)
