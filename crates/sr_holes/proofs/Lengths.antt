-- How long the text of the formula is at most.
use Rattle.std.proofs.Common.{◌≡◌, ⊎_elim, ℕ, zero, suc, ◌+◌, ◌-◌, ◌*◌, ◌/◌, ◌^◌, ◌≤◌, pos, ap, List, [], ◌∷◌, ◌++◌, map, length, length-append, arith}
use Rattle.std.specs.Prelude.{All, Contains, codes, decimal}
use Rattle.std.specs.Fmt.{signed_decimal}
use Rattle.std.proofs.lemmas.Fmt.{length_signed_le, length-decimal-le}
use Rattle.std.proofs.lemmas.Nat.{mul-le}
use Rattle.std.proofs.lemmas.List.FromFn.{length-map-range_with_len}
use Rattle.std.proofs.lemmas.List.Elements.{All-head, All-tail, All-weaker, All-contains, All-contains_itself}
use Rattle.sr_base.specs.Literal.{Literal, plus, minus, variable, number}
use Rattle.sr_base.specs.Limits.{shipped}
use Rattle.sr_model.specs.ReadAgain.{IsLiteral, IsClause}
use Rattle.sr_model.specs.Writing.{spaced, number_line, clause_lines, written_formula}
use Rattle.sr_holes.specs.declared.literals.TheConstants.{MOST_HOLES}
use Rattle.sr_holes.specs.Holes.{in_hole, in_some_hole, pigeonhole_formula}
use Rattle.sr_holes.specs.Laws.{IsOfPigeon, IsOfPair, FitsLimits}
use Rattle.sr_holes.proofs.Counting.{clauses_count}
use Rattle.sr_holes.proofs.Members.{has_clauses}
use Rattle.sr_holes.proofs.Within.{vars_are, clauses_within}

-- a literal takes at most five digits and signs
number_length : (l : Literal) → variable l ≤ 3660 → length (signed_decimal (number l)) ≤ 5
number_length (plus v) small = length_signed_le 4 (pos v) (omega arith) (omega arith)
number_length (minus zero) small = length_signed_le 4 (pos 0) (omega arith) (omega arith)
number_length (minus (suc v)) small = length_signed_le 4 (number (minus (suc v))) (omega arith) (omega arith)

spaced_length : (ls : List Literal) → All (λ l. variable l ≤ 3660) ls → length (spaced (map number ls)) ≤ 6 * length ls
spaced_length [] small = omega arith
spaced_length (l ∷ ls) small =
    let one = number_length l (All-head (λ l. variable l ≤ 3660) l ls small) in
    let rest = spaced_length ls (All-tail (λ l. variable l ≤ 3660) l ls small) in
    let both = length-append (signed_decimal (number l)) (32 ∷ spaced (map number ls)) in
    omega arith

-- a clause has at most as many literals as there are holes
record IsShort (c : List Literal) : Type 0 where
  few : length c ≤ 60
  small : All (λ l. variable l ≤ 3660) c

line_length : (c : List Literal) → IsShort c → length (number_line (map number c)) ≤ 362
line_length c s =
    let literals = spaced_length c s.small in
    let both = length-append (spaced (map number c)) (codes "0\n") in
    omega (arith, s.few)

lines_length : (cs : List (List Literal)) → All IsShort cs → length (clause_lines cs) ≤ 362 * length cs
lines_length [] short = omega arith
lines_length (c ∷ cs) short =
    let one = line_length c (All-head IsShort c cs short) in
    let rest = lines_length cs (All-tail IsShort c cs short) in
    let both = length-append (number_line (map number c)) (clause_lines cs) in
    omega arith

vars_few : (n : ℕ) → n ≤ 60 → (pigeonhole_formula n).vars ≤ 3660
vars_few n few = let most : n * (n + 1) ≤ 60 * 61 = mul-le n (n + 1) 60 61 few (omega arith) in omega (arith, vars_are n)

clauses_few : (n : ℕ) → n ≤ 60 → length (pigeonhole_formula n).clauses ≤ 109861
clauses_few n few =
    let most : n * (n + 1) ≤ 60 * 61 = mul-le n (n + 1) 60 61 few (omega arith) in
    let half : n * (n + 1) / 2 ≤ 1830 = omega arith in
    let all : n * (n * (n + 1) / 2) ≤ 60 * 1830 = mul-le n (n * (n + 1) / 2) 60 1830 few half in
    omega (arith, clauses_count n)

is_few : (n : ℕ) (c : List Literal) → n ≤ 60 → Contains (pigeonhole_formula n).clauses c → length c ≤ 60
is_few n c few m = ⊎_elim of_pigeon of_pair ((has_clauses n c).0 m)
  where
    of_pigeon : IsOfPigeon n c → length c ≤ 60
    of_pigeon k = let len : length (in_some_hole n k.pigeon) ≡ n + 1 - 1 = length-map-range_with_len (in_hole n k.pigeon) 1 (n + 1 - 1) in omega (arith, ap length k.is)

    of_pair : IsOfPair n c → length c ≤ 60
    of_pair k = omega (arith, ap length k.is)

clauses_short : (n : ℕ) → n ≤ 60 → All IsShort (pigeonhole_formula n).clauses
clauses_short n few =
    let cs : List (List Literal) = (pigeonhole_formula n).clauses in
    All-weaker (Contains cs) IsShort (λ c m. record { few = is_few n c few m; small = small c m }) cs (All-contains_itself cs)
  where
    small : (c : List Literal) → Contains (pigeonhole_formula n).clauses c → All (λ l. variable l ≤ 3660) c
    small c m =
        let vars : ℕ = (pigeonhole_formula n).vars in
        let clause = All-contains (IsClause vars) (pigeonhole_formula n).clauses c (clauses_within n) m in
        All-weaker (IsLiteral vars) (λ l. variable l ≤ 3660) (λ l i. omega (arith, i.1, vars_few n few)) c clause.within

parts_length : (a b d : List ℕ) → length (codes "p cnf " ++ a ++ 32 ∷ b ++ 10 ∷ d) ≡ length a + length b + length d + 8
parts_length a b d = omega (arith, length-append (a ++ 32 ∷ b) (10 ∷ d), length-append a (32 ∷ b))

text_length : (n : ℕ) → n ≤ 60 → length (written_formula (pigeonhole_formula n)) ≤ 2 ^ 32
text_length n few =
    let vars = length-decimal-le 4 (pigeonhole_formula n).vars (omega arith) (omega (arith, vars_few n few)) (omega (arith, vars_few n few)) in
    let count = length-decimal-le 6 (length (pigeonhole_formula n).clauses) (omega arith) (omega (arith, clauses_few n few)) (omega (arith, clauses_few n few)) in
    let lines = lines_length (pigeonhole_formula n).clauses (clauses_short n few) in
    let all = parts_length (decimal (pigeonhole_formula n).vars) (decimal (length (pigeonhole_formula n).clauses)) (clause_lines (pigeonhole_formula n).clauses) in
    omega (arith, clauses_few n few)

pub limits_suffice : (n : ℕ) → n ≤ MOST_HOLES → FitsLimits shipped n
limits_suffice n few = record { vars = omega (arith, vars_few n few); count = omega (arith, clauses_few n few); bytes = text_length n few }
