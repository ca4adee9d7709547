-- The text of a formula.
use Rattle.std.specs.Prelude.{ℕ, ◌≤◌, List, ◌∷◌, ◌++◌, [], length, codes, decimal}
use Rattle.sr_model.specs.Dimacs.{Formula}

-- a clause has this number
abbrev pub IsNumberOf : Formula → ℕ → Type 0
IsNumberOf f n = (1 ≤ n) × (n ≤ length f.clauses)

abbrev pub header : ℕ → ℕ → List ℕ
header vars count = codes "p cnf " ++ decimal vars ++ 32 ∷ decimal count ++ 10 ∷ []
