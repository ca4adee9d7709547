-- How many clauses the formula has, and its text.
use Rattle.std.proofs.Common.{◌≡◌, ◌∙◌, ℕ, zero, suc, ◌+◌, ◌-◌, ◌*◌, ◌/◌, sym, ap, refl, List, [], ◌∷◌, ◌++◌, map, length, length-append, append_assoc, arith}
use Rattle.std.specs.Prelude.{flat_map, codes, decimal}
use Rattle.std.specs.List.{range_with_len}
use Rattle.std.proofs.lemmas.List.FromFn.{length-map-range_with_len}
use Rattle.std.proofs.lemmas.List.Concat.{flat_map-append}
use Rattle.std.proofs.Math.Nat.{mul-div_cancel_left}
use Rattle.sr_base.specs.Literal.{Literal, number}
use Rattle.sr_model.specs.Writing.{number_line, clause_lines, written_formula}
use Rattle.sr_holes.specs.Holes.{from_to, in_some_hole, not_both, not_with_later, at_most_one, pigeonhole_formula}
use Rattle.sr_holes.specs.Places.{header}

-- twice the number of pairs of which the first is one of the last m pigeons but one
pairs_from : (n h a m : ℕ) → a + m ≡ n + 1 → 2 * length (flat_map (not_with_later n h) (range_with_len a m)) ≡ m * (m + 1)
pairs_from n h a zero e = refl
pairs_from n h a (suc m) e =
    let here : length (not_with_later n h a) ≡ suc m = length-map-range_with_len (not_both n h a) (a + 1) (n + 1 + 1 - (a + 1)) ∙ omega arith in
    let rest = pairs_from n h (a + 1) m (omega arith) in
    let both = length-append (not_with_later n h a) (flat_map (not_with_later n h) (range_with_len (a + 1) m)) in
    omega arith

pub pair_count : (n h : ℕ) → length (at_most_one n h) ≡ n * (n + 1) / 2
pair_count n h =
    let m : n + 1 - 1 ≡ n = omega arith in
    let twice : 2 * length (at_most_one n h) ≡ n * (n + 1) = pairs_from n h 1 (n + 1 - 1) (omega arith) ∙ ap (λ k. k * (k + 1)) m in
    sym (mul-div_cancel_left (length (at_most_one n h)) {n = 2} (omega arith)) ∙ ap (λ k. k / 2) twice

holes_from : (n a m : ℕ) → length (flat_map (at_most_one n) (range_with_len a m)) ≡ m * (n * (n + 1) / 2)
holes_from n a zero = omega arith
holes_from n a (suc m) =
    let here = pair_count n a in
    let rest = holes_from n (a + 1) m in
    let both = length-append (at_most_one n a) (flat_map (at_most_one n) (range_with_len (a + 1) m)) in
    omega arith

pub clauses_count : (n : ℕ) → length (pigeonhole_formula n).clauses ≡ n + 1 + n * (n * (n + 1) / 2)
unfolding pigeonhole_formula
clauses_count n =
    let m : n + 1 - 1 ≡ n = omega arith in
    let pigeons : length (map (in_some_hole n) (from_to 1 (n + 1))) ≡ n + 1 = length-map-range_with_len (in_some_hole n) 1 (n + 1 + 1 - 1) ∙ omega arith in
    let holes : length (flat_map (at_most_one n) (from_to 1 n)) ≡ n * (n * (n + 1) / 2) = holes_from n 1 (n + 1 - 1) ∙ ap (λ k. k * (n * (n + 1) / 2)) m in
    length-append (map (in_some_hole n) (from_to 1 (n + 1))) (flat_map (at_most_one n) (from_to 1 n)) ∙ ap (λ k. k + length (flat_map (at_most_one n) (from_to 1 n))) pigeons ∙ ap (λ k. n + 1 + k) holes

-- the header, the clauses of the pigeons, and those of the holes
pub formula_text : (n vars count : ℕ) (none first second out : List ℕ) → vars ≡ n * (n + 1) → count ≡ length (pigeonhole_formula n).clauses → none ≡ [] → first ≡ none ++ header vars count
    → second ≡ first ++ clause_lines (map (in_some_hole n) (from_to 1 (n + 1))) → out ≡ second ++ clause_lines (flat_map (at_most_one n) (from_to 1 n))
    → out ≡ written_formula (pigeonhole_formula n)
unfolding pigeonhole_formula
formula_text n vars count none first second out v k empty a b d =
    let item : List Literal → List ℕ = λ c. number_line (map number c) in
    let pigeons : List (List Literal) = map (in_some_hole n) (from_to 1 (n + 1)) in
    let holes : List (List Literal) = flat_map (at_most_one n) (from_to 1 n) in
    let front : ℕ → ℕ → List ℕ = λ u m. codes "p cnf " ++ decimal u ++ 32 ∷ decimal m in
    let begins : first ≡ front (n * (n + 1)) (length (pigeons ++ holes)) ++ 10 ∷ [] = a ∙ ap (λ l. l ++ header vars count) empty ∙ ap (λ u. header u count) v ∙ ap (header (n * (n + 1))) k in
    d ∙ ap (λ l. l ++ clause_lines holes) b ∙ append_assoc first (clause_lines pigeons) (clause_lines holes) ∙ ap (λ l. first ++ l) (sym (flat_map-append item pigeons holes))
    ∙ ap (λ l. l ++ clause_lines (pigeons ++ holes)) begins ∙ append_assoc (front (n * (n + 1)) (length (pigeons ++ holes))) (10 ∷ []) (clause_lines (pigeons ++ holes))
