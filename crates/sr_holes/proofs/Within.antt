-- The clauses of the formula are within its variables, and repeat none.
use Rattle.std.proofs.Common.{◌≡◌, ⊎_elim, ℕ, zero, suc, ◌+◌, ◌-◌, ◌*◌, ◌<◌, ◌≤◌, false, sym, subst, refl, List, [], ◌∷◌, map, arith}
use Rattle.std.specs.Prelude.{All}
use Rattle.std.specs.List.{range_with_len}
use Rattle.std.proofs.lemmas.Bool.{or_from}
use Rattle.std.proofs.lemmas.Bool.Decides.{nat_tests}
use Rattle.std.proofs.lemmas.List.Elements.{All-nil, All-cons, All-weaker, All-contains_itself}
use Rattle.sr_base.specs.Literal.{Literal, same, has, NoRepeats}
use Rattle.sr_model.specs.ReadAgain.{IsLiteral, IsClause, IsFormula}
use Rattle.sr_base.specs.Limits.{LimitValues}
use Rattle.std.specs.Prelude.{Contains}
use Rattle.sr_holes.specs.Holes.{seat, in_hole, not_in_hole, in_some_hole, not_both, pigeonhole_formula}
use Rattle.sr_holes.specs.Laws.{IsPigeon, IsHole, IsOfPigeon, IsOfPair, FitsLimits}
use Rattle.sr_holes.proofs.Members.{has_clauses}
use Rattle.sr_holes.proofs.Seats.{seat_low, seat_high, same_seat}

holes_within : (n p a m : ℕ) → IsPigeon n p → 1 ≤ a → a + m ≤ n + 1 → All (IsLiteral (n * (n + 1))) (map (in_hole n p) (range_with_len a m))
holes_within n p a zero i low high = All-nil (IsLiteral (n * (n + 1)))
holes_within n p a (suc m) i low high =
    let h : IsHole n a = (low, omega arith) in
    All-cons (IsLiteral (n * (n + 1))) (in_hole n p a) (map (in_hole n p) (range_with_len (a + 1) m)) (omega (arith, seat_low n p a h), seat_high n p a i h)
    (holes_within n p (a + 1) m i (omega arith) (omega arith))

-- literals of other holes are others
other_hole : (n p a b : ℕ) → a < b → same (in_hole n p b) (in_hole n p a) ≡ false
unfolding same
other_hole n p a b lt = grind (arith, nat_tests)

not_behind : (n p a b m : ℕ) → a < b → has (in_hole n p a) (map (in_hole n p) (range_with_len b m)) ≡ false
not_behind n p a b zero lt = refl
not_behind n p a b (suc m) lt =
    or_from (same (in_hole n p b) (in_hole n p a)) (has (in_hole n p a) (map (in_hole n p) (range_with_len (b + 1) m))) (other_hole n p a b lt) (not_behind n p a (b + 1) m (omega arith))

holes_differ : (n p a m : ℕ) → NoRepeats (map (in_hole n p) (range_with_len a m))
holes_differ n p a zero = tt
holes_differ n p a (suc m) = (not_behind n p a (a + 1) m (omega arith), holes_differ n p (a + 1) m)

other_seat : (n h i j : ℕ) → (seat n i h ≡ seat n j h → ⊥) → same (not_in_hole n j h) (not_in_hole n i h) ≡ false
unfolding same
other_seat n h i j ne = grind (arith, nat_tests)

pigeon_clause : (n : ℕ) (c : List Literal) → IsOfPigeon n c → IsClause (n * (n + 1)) c
pigeon_clause n c k = subst (IsClause (n * (n + 1))) (sym k.is) clause
  where
    clause : IsClause (n * (n + 1)) (in_some_hole n k.pigeon)
    clause = record { within = holes_within n k.pigeon 1 (n + 1 - 1) k.is_pigeon (omega arith) (omega arith); distinct = holes_differ n k.pigeon 1 (n + 1 - 1) }

pair_clause : (n : ℕ) (c : List Literal) → IsOfPair n c → IsClause (n * (n + 1)) c
pair_clause n c k = subst (IsClause (n * (n + 1))) (sym k.is) (record { within = within; distinct = distinct })
  where
    is_literal : (p : ℕ) → IsPigeon n p → IsLiteral (n * (n + 1)) (not_in_hole n p k.hole)
    is_literal p i = (omega (arith, seat_low n p k.hole k.is_hole), seat_high n p k.hole i k.is_hole)

    within : All (IsLiteral (n * (n + 1))) (not_both n k.hole k.first k.second)
    within =
        All-cons (IsLiteral (n * (n + 1))) (not_in_hole n k.first k.hole) (not_in_hole n k.second k.hole ∷ []) (is_literal k.first k.is_first)
        (All-cons (IsLiteral (n * (n + 1))) (not_in_hole n k.second k.hole) [] (is_literal k.second k.is_second) (All-nil (IsLiteral (n * (n + 1)))))

    differ : seat n k.first k.hole ≡ seat n k.second k.hole → ⊥
    differ e = let s = same_seat n k.first k.second k.hole k.hole k.is_first k.is_second k.is_hole k.is_hole e in omega (arith, s.0, k.order)

    distinct : NoRepeats (not_both n k.hole k.first k.second)
    distinct = (or_from (same (not_in_hole n k.second k.hole) (not_in_hole n k.first k.hole)) false (other_seat n k.hole k.first k.second differ) refl, (refl, tt))

pub vars_are : (n : ℕ) → (pigeonhole_formula n).vars ≡ n * (n + 1)
unfolding pigeonhole_formula
vars_are n = refl

pub clauses_within : (n : ℕ) → All (IsClause (pigeonhole_formula n).vars) (pigeonhole_formula n).clauses
clauses_within n =
    let cs : List (List Literal) = (pigeonhole_formula n).clauses in
    All-weaker (Contains cs) (IsClause (pigeonhole_formula n).vars)
    (λ c m. subst (λ v. IsClause v c) (sym (vars_are n)) (⊎_elim (pigeon_clause n c) (pair_clause n c) ((has_clauses n c).0 m))) cs (All-contains_itself cs)

pub formula_within : (lim : LimitValues) (n : ℕ) → FitsLimits lim n → IsFormula lim (pigeonhole_formula n)
formula_within lim n f = record { vars = f.vars; count = f.count; clauses = clauses_within n }
