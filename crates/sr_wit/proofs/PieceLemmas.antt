-- Lists that are kept in one.
use Rattle.std.proofs.Common.{◌≡◌, ◌==◌, ℕ, zero, suc, ◌+◌, ◌*◌, ◌-◌, ◌≤◌, ◌<◌, true, false, List, [], ◌∷◌, ◌++◌, length, get_or, take, drop, refl, sym, ap, ◌∙◌, arith, length-append, length-drop}
use Rattle.std.specs.Prelude.{slice_range}
use Rattle.std.proofs.lemmas.List.{take_all, drop_at, drop-append-le, take-append-le, length-take-le}
use Rattle.std.proofs.lemmas.Bool.Decides.{nat_tests}
use Rattle.std.proofs.lemmas.List.Elements.{All-push}
use Rattle.sr_base.specs.Literal.{Literal, NoRepeats}
use Rattle.sr_model.specs.Refutation.{is_empty, has_empty}
use Rattle.std.proofs.lemmas.List.Sums.{sum_by-cons}
use Rattle.sr_model.specs.Judging.{cells_of, clause_cells}
use Rattle.sr_wit.specs.Pieces.{AreEnds, pieces, start_at, repeats_end}
use Rattle.sr_wit.specs.Formulas.{UsesUpTo, KeepsFormula}

pub length-pieces : {X : Type 0} (start : ℕ) (ends : List ℕ) (xs : List X) → length (pieces start ends xs) ≡ length ends
length-pieces start [] xs = refl
length-pieces start (e ∷ es) xs = ap suc (length-pieces e es xs)

pub start-le-whole : (start : ℕ) (ends : List ℕ) (whole : ℕ) → AreEnds start ends whole → start ≤ whole
start-le-whole start [] whole h = omega arith
start-le-whole start (e ∷ es) whole h = omega (arith, h.0, start-le-whole e es whole h.1)

-- a piece lies within the whole
pub piece_within : (start : ℕ) (ends : List ℕ) (whole i : ℕ) → AreEnds start ends whole → i < length ends
    → (start_at start ends i ≤ get_or ends i 0) × (get_or ends i 0 ≤ whole)
piece_within start [] whole i h l = absurd (omega arith)
piece_within start (e ∷ es) whole zero h l = (h.0, start-le-whole e es whole h.1)
piece_within start (e ∷ []) whole (suc i) h l = absurd (omega arith)
piece_within start (e ∷ k ∷ es) whole (suc zero) h l = piece_within e (k ∷ es) whole zero h.1 (omega arith)
piece_within start (e ∷ k ∷ es) whole (suc (suc i)) h l = piece_within e (k ∷ es) whole (suc i) h.1 (omega arith)

pub get_or-pieces : {X : Type 0} (start : ℕ) (ends : List ℕ) (xs : List X) (i : ℕ) → i < length ends
    → get_or (pieces start ends xs) i [] ≡ slice_range xs (start_at start ends i) (get_or ends i 0)
get_or-pieces start [] xs i l = absurd (omega arith)
get_or-pieces start (e ∷ es) xs zero l = refl
get_or-pieces start (e ∷ []) xs (suc i) l = absurd (omega arith)
get_or-pieces start (e ∷ k ∷ es) xs (suc zero) l = refl
get_or-pieces start (e ∷ k ∷ es) xs (suc (suc i)) l = get_or-pieces e (k ∷ es) xs (suc i) (omega arith)

length-range : {X : Type 0} (xs : List X) (a b : ℕ) → b ≤ length xs → length (slice_range xs a b) ≡ b - a
length-range xs a b h = length-take-le (b - a) (drop a xs) (omega (arith, length-drop a xs))

pub range-append : {X : Type 0} (xs ys : List X) (a b : ℕ) → a ≤ b → b ≤ length xs → slice_range (xs ++ ys) a b ≡ slice_range xs a b
range-append xs ys a b h g =
    ap (take (b - a)) (drop-append-le a xs ys (omega arith)) ∙ take-append-le (b - a) (drop a xs) ys (omega (arith, length-drop a xs))

range-end : {X : Type 0} (xs ys : List X) (n : ℕ) → length xs ≡ n → slice_range (xs ++ ys) n (n + length ys) ≡ ys
range-end xs ys n h = ap (take (n + length ys - n)) (drop_at xs ys n h) ∙ take_all (n + length ys - n) ys (omega arith)

-- one more list at the end
pub pieces-push : {X : Type 0} (start : ℕ) (ends : List ℕ) (xs ys : List X) → AreEnds start ends (length xs)
    → pieces start (ends ++ (length xs + length ys) ∷ []) (xs ++ ys) ≡ pieces start ends xs ++ ys ∷ []
pieces-push start [] xs ys h = ap (λ p. p ∷ []) (rw h (range-end xs ys (length xs) refl))
pieces-push start (e ∷ es) xs ys h =
    let first : slice_range (xs ++ ys) start e ≡ slice_range xs start e = range-append xs ys start e h.0 (start-le-whole e es (length xs) h.1) in
    rw (first, pieces-push e es xs ys h.1) refl

pub ends-push : (start : ℕ) (ends : List ℕ) (whole more : ℕ) → AreEnds start ends whole → whole ≤ more → AreEnds start (ends ++ more ∷ []) more
ends-push start [] whole more h l = (omega arith, refl)
ends-push start (e ∷ es) whole more h l = (h.0, ends-push e es whole more h.1 l)

empty-length : (c : List Literal) (a b : ℕ) → length c ≡ b - a → a ≤ b → is_empty c ≡ (b == a)
empty-length [] a b h l = let t : (b == a) ≡ true = grind (arith, nat_tests) in sym t
empty-length (x ∷ c) a b h l = let t : (b == a) ≡ false = grind (arith, nat_tests) in sym t

pub has_empty-pieces : (start : ℕ) (ends : List ℕ) (lits : List Literal) → AreEnds start ends (length lits) → has_empty (pieces start ends lits) ≡ repeats_end start ends
has_empty-pieces start [] lits h = refl
has_empty-pieces start (e ∷ es) lits h =
    let first : is_empty (slice_range lits start e) ≡ (e == start) =
    empty-length (slice_range lits start e) start e (length-range lits start e (start-le-whole e es (length lits) h.1)) h.0 in
    rw (first, has_empty-pieces e es lits h.1) refl

pub cells-pieces : (start : ℕ) (ends : List ℕ) (lits : List Literal) → AreEnds start ends (length lits)
    → cells_of (pieces start ends lits) + start ≡ length lits + 4 * length ends
cells-pieces start [] lits h = omega arith
cells-pieces start (e ∷ es) lits h =
    let first : length (slice_range lits start e) ≡ e - start = length-range lits start e (start-le-whole e es (length lits) h.1) in
    omega (arith, first, h.0, sum_by-cons clause_cells (slice_range lits start e) (pieces e es lits), cells-pieces e es lits h.1)

-- what the formula keeps, with one more clause
pub formula-push : (vars : ℕ) (ends ends' : List ℕ) (lits lits' c : List Literal) → KeepsFormula vars ends lits
    → lits' ≡ lits ++ c → ends' ≡ ends ++ (length lits + length c) ∷ [] → length ends < 2147483646 → NoRepeats c → UsesUpTo vars c
    → KeepsFormula vars ends' lits'
formula-push vars ends ends' lits lits' c k hl he room distinct within =
    let parts : pieces 0 ends' lits' ≡ pieces 0 ends lits ++ c ∷ [] = rw (hl, he) (pieces-push 0 ends lits c k.cut) in
    record {
      vars_bound = k.vars_bound;
      count_bound = rw he (omega (arith, length-append ends ((length lits + length c) ∷ [])));
      cut = rw (he, hl, length-append lits c) (ends-push 0 ends (length lits) (length lits + length c) k.cut (omega arith));
      distinct = rw parts (All-push NoRepeats (pieces 0 ends lits) c k.distinct distinct);
      within = rw parts (All-push (UsesUpTo vars) (pieces 0 ends lits) c k.within within);
    }
