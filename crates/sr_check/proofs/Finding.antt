-- Lemmas on the clauses of numbers.
use Rattle.std.proofs.Common.{◌≡◌, ◌≢◌, ℕ, ◌+◌, ◌==◌, true, false, List, [], ◌∷◌, Some, None, length, refl, ◌∙◌, ap, arith}
use Rattle.std.proofs.lemmas.List.Sums.{sum_by-cons}
use Rattle.std.proofs.lemmas.Bool.Decides.{nat_tests}
use Rattle.sr_base.specs.Literal.{Literal}
use Rattle.sr_model.specs.Chain.{Numbered, clauses, clause_of}
use Rattle.sr_model.specs.Judging.{without, clause_cells, cells_of}
use Rattle.sr_check.specs.Storage.{AreApart}
use Rattle.sr_table.proofs.Paging.{by_test}

pub is_not : (a b : ℕ) → a ≢ b → (a == b) ≡ false
is_not a b ne = grind (arith, nat_tests)

pub is_same : (a b : ℕ) → (a == b) ≡ true → a ≡ b
is_same a b t = grind (arith, nat_tests)

pub is_self : (a b : ℕ) → a ≡ b → (a == b) ≡ true
is_self a b e = grind (arith, nat_tests)

-- a number that isn't live is dropped
pub without_absent : (live : Numbered) (n : ℕ) → clause_of live n ≡ None → without (n ∷ []) live ≡ live
without_absent [] n h = refl
without_absent (p ∷ ps) n h = by_test (p.0 == n)
    (λ t. let s : Some p.1 ≡ None = rw t at h in absurd cc)
    (λ t. let f : (n == p.0) ≡ false = grind (arith, nat_tests) in rw f (ap (λ x. p ∷ x) (without_absent ps n (rw t at h))))

-- the cells of a clause that is dropped
pub cells_dropped : (live : Numbered) (n : ℕ) (c : List Literal) → AreApart live → clause_of live n ≡ Some c → cells_of (clauses (without (n ∷ []) live)) + clause_cells c ≡ cells_of (clauses live)
cells_dropped [] n c a h = absurd cc
cells_dropped (p ∷ ps) n c a h = by_test (p.0 == n)
    (λ t.
    let is : n ≡ p.0 = grind (arith, nat_tests) in
    let s : (n == p.0) ≡ true = grind (arith, nat_tests) in
    let here : p.1 ≡ c = let e : Some p.1 ≡ Some c = rw t at h in cc in
    let rest : without (n ∷ []) ps ≡ ps = without_absent ps n (ap (clause_of ps) is ∙ a.0) in
    rw s (omega (arith, all, ap (λ x. cells_of (clauses x)) rest, ap length here)))
    (λ t.
    let s : (n == p.0) ≡ false = grind (arith, nat_tests) in
    let sum : cells_of (p.1 ∷ clauses (without (n ∷ []) ps)) ≡ clause_cells p.1 + cells_of (clauses (without (n ∷ []) ps)) = sum_by-cons clause_cells p.1 (clauses (without (n ∷ []) ps)) in
    rw s (omega (arith, all, sum, cells_dropped ps n c a.1 (rw t at h))))
  where
    all : cells_of (clauses (p ∷ ps)) ≡ clause_cells p.1 + cells_of (clauses ps)
    all = sum_by-cons clause_cells p.1 (clauses ps)
