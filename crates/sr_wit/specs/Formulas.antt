-- What holds of a formula.
use Rattle.std.specs.Prelude.{ℕ, ◌≤◌, List, length, All}
use Rattle.sr_base.specs.Literal.{Literal, variable, NoRepeats}
use Rattle.sr_wit.specs.Pieces.{AreEnds, pieces}

-- no variable is greater
abbrev pub UsesUpTo : ℕ → List Literal → Type 0
UsesUpTo v c = All (λ l. variable l ≤ v) c

-- the literals are cut into clauses without repeats over so many variables
pub record KeepsFormula (vars : ℕ) (ends : List ℕ) (lits : List Literal) : Type 0 where
  pub vars_bound : vars ≤ 16777215
  pub count_bound : length ends ≤ 2147483646
  pub cut : AreEnds 0 ends (length lits)
  pub distinct : All NoRepeats (pieces 0 ends lits)
  pub within : All (UsesUpTo vars) (pieces 0 ends lits)
