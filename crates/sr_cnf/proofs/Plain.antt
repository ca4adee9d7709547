-- What the distinct literals of a list use.
use Rattle.std.proofs.Common.{◌≤◌, ℕ, not, List, [], ◌∷◌}
use Rattle.std.specs.Prelude.{filter}
use Rattle.std.proofs.lemmas.List.Elements.{All-from_recursion, recursion_from_All, All-filter, All-nil}
use Rattle.std.specs.List.{AllByRecursion}
use Rattle.sr_base.specs.Literal.{Literal, variable, same, distinct}
use Rattle.sr_wit.specs.Formulas.{UsesUpTo}

-- the distinct elements use no greater variable
pub distinct_within : (v : ℕ) (ls : List Literal) → UsesUpTo v ls → UsesUpTo v (distinct ls)
distinct_within v ls u = go ls (recursion_from_All (λ l. variable l ≤ v) ls u)
  where
    go : (ls : List Literal) → AllByRecursion (λ l. variable l ≤ v) ls → UsesUpTo v (distinct ls)
    go [] h = All-nil (λ l. variable l ≤ v)
    go (l ∷ ls) h = All-from_recursion (λ l. variable l ≤ v) (distinct (l ∷ ls))
        (h.0, recursion_from_All (λ l. variable l ≤ v) (filter (λ k. not (same l k)) (distinct ls)) (All-filter (λ k. not (same l k)) (λ l. variable l ≤ v) (distinct ls) (go ls h.1)))
