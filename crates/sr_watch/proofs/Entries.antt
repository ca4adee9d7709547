-- Lemmas on the list of entries, step by step.
use Rattle.std.proofs.Common.{◌≡◌, ◌≢◌, ◌<◌, ◌≤◌, ◌+◌, ◌⊎◌, inl, inr, ℕ, suc, zero, true, false, cond, ◌==◌, List, [], ◌∷◌, Some, refl, arith, add-one, length, get_or, drop}
use Rattle.std.proofs.lemmas.Bool.{cases_eq}
use Rattle.std.proofs.lemmas.Bool.Decides.{nat_tests}
use Rattle.sr_base.specs.Literal.{Literal, plus, variable, complement, same, has}
use Rattle.sr_base.proofs.Literals.{same_tells}
use Rattle.sr_model.proofs.Soundness.{by_test}
use Rattle.sr_watch.specs.State.{assumed_in, value_in, reason_in}

-- one entry less is left
value_suc : (ls : List Literal) (i : ℕ) (k l : Literal) → i < length ls → k ≡ get_or ls i k → value_in (drop i ls) l ≡ cond (same k l) (Some true) (cond (same k (complement l)) (Some false) (value_in (drop (suc i) ls) l))
value_suc [] i k l lt e = absurd (omega arith)
value_suc (x ∷ ls) zero k l lt e = rw e refl
value_suc (x ∷ ls) (suc i) k l lt e = value_suc ls i k l (omega arith) e

assumed_suc : (ls : List Literal) (rs : List ℕ) (i : ℕ) (k l : Literal) → i < length ls → length rs ≡ length ls → k ≡ get_or ls i k
    → has l (assumed_in (drop i ls) (drop i rs)) ≡ cond (get_or rs i 0 == 0) (cond (same k l) true (has l (assumed_in (drop (suc i) ls) (drop (suc i) rs)))) (has l (assumed_in (drop (suc i) ls) (drop (suc i) rs)))
assumed_suc [] rs i k l lt n e = absurd (omega arith)
assumed_suc (x ∷ ls) [] i k l lt n e = absurd (omega arith)
assumed_suc (x ∷ ls) (r ∷ rs) zero k l lt n e = by_test (r == 0) (λ t. rw (t, e) (by_test (same x l) (λ u. rw u refl) (λ u. rw u refl))) (λ f. rw f refl)
assumed_suc (x ∷ ls) (r ∷ rs) (suc i) k l lt n e = assumed_suc ls rs i k l (omega arith) (omega arith) e

reason_suc : (ls : List Literal) (rs : List ℕ) (i : ℕ) (k : Literal) (v : ℕ) → i < length ls → length rs ≡ length ls → k ≡ get_or ls i k
    → reason_in (drop i ls) (drop i rs) v ≡ cond (variable k == v) (cond (get_or rs i 0 == 0) (reason_in (drop (suc i) ls) (drop (suc i) rs) v) (get_or rs i 0)) (reason_in (drop (suc i) ls) (drop (suc i) rs) v)
reason_suc [] rs i k v lt n e = absurd (omega arith)
reason_suc (x ∷ ls) [] i k v lt n e = absurd (omega arith)
reason_suc (x ∷ ls) (r ∷ rs) zero k v lt n e = rw e refl
reason_suc (x ∷ ls) (r ∷ rs) (suc i) k v lt n e = reason_suc ls rs i k v (omega arith) (omega arith) e

pub value_step : (ls : List Literal) (i : ℕ) (k l : Literal) → i < length ls → k ≡ get_or ls i k → value_in (drop i ls) l ≡ cond (same k l) (Some true) (cond (same k (complement l)) (Some false) (value_in (drop (i + 1) ls) l))
value_step ls i k l lt e = rw add-one (value_suc ls i k l lt e)

pub assumed_step : (ls : List Literal) (rs : List ℕ) (i : ℕ) (k l : Literal) → i < length ls → length rs ≡ length ls → k ≡ get_or ls i k
    → has l (assumed_in (drop i ls) (drop i rs)) ≡ cond (get_or rs i 0 == 0) (cond (same k l) true (has l (assumed_in (drop (i + 1) ls) (drop (i + 1) rs)))) (has l (assumed_in (drop (i + 1) ls) (drop (i + 1) rs)))
assumed_step ls rs i k l lt n e = rw add-one (assumed_suc ls rs i k l lt n e)

pub reason_step : (ls : List Literal) (rs : List ℕ) (i : ℕ) (k : Literal) (v : ℕ) → i < length ls → length rs ≡ length ls → k ≡ get_or ls i k
    → reason_in (drop i ls) (drop i rs) v ≡ cond (variable k == v) (cond (get_or rs i 0 == 0) (reason_in (drop (i + 1) ls) (drop (i + 1) rs) v) (get_or rs i 0)) (reason_in (drop (i + 1) ls) (drop (i + 1) rs) v)
reason_step ls rs i k v lt n e = rw add-one (reason_suc ls rs i k v lt n e)

pub by_eq : {P : Type 0} (a b : ℕ) → (a ≡ b → P) → (a ≢ b → P) → P
by_eq {P} a b f g = at (cases_eq a b)
  where
    at : (a ≡ b) ⊎ (a ≡ b → ⊥) → P
    at (inl e) = f e
    at (inr n) = g n

-- a pair among the assumed literals shows at an entry
pub no_assumed_pair : (ls : List Literal) (rs : List ℕ) (k : Literal) (n : ℕ) → length rs ≡ length ls → length ls ≤ n → ((i : ℕ) → i < n → get_or rs i 0 ≡ 0 → get_or ls i (plus 0) ≡ k → ⊥) → has k (assumed_in ls rs) ≡ false
no_assumed_pair [] rs k n e le f = refl
no_assumed_pair (l ∷ ls) [] k n e le f = absurd (omega arith)
no_assumed_pair (l ∷ ls) (r ∷ rs) k n e le f =
    let rest : has k (assumed_in ls rs) ≡ false = no_assumed_pair ls rs k (length ls) (omega arith) (omega arith) (λ i lt z is. f (suc i) (omega arith) z is) in
    by_test (r == 0)
    (λ t. rw t (by_test (same l k) (λ u. let is : l ≡ k = grind (arith, same_tells l k) in let z : r ≡ 0 = grind (arith, nat_tests) in absurd (f 0 (omega arith) z is)) (λ u. rw u rest)))
    (λ t. rw t rest)
