-- What the parts of the texts promise to one another.
use Rattle.std.specs.Prelude.{ℕ, ◌+◌, ◌≤◌, List, [], ◌∷◌, ◌++◌, codes, decimal}
use Rattle.sr_base.specs.Literal.{Literal}
use Rattle.sr_holes.specs.declared.literals.TheConstants.{MOST_HOLES}
use Rattle.sr_holes.specs.Holes.{in_hole, not_in_hole}

-- there are such a pigeon and such a hole, and no more holes than there may be
pub record IsPlace (n p h : ℕ) : Type 0 where
  pub holes : n ≤ MOST_HOLES
  pub first_pigeon : 1 ≤ p
  pub last_pigeon : p ≤ n + 1
  pub first_hole : 1 ≤ h
  pub last_hole : h ≤ n

-- the line with the numbers of variables and of clauses
abbrev pub header : ℕ → ℕ → List ℕ
header vars count = codes "p cnf " ++ decimal vars ++ 32 ∷ decimal count ++ 10 ∷ []

-- pigeon i doesn't sit in hole k, and pigeon k + 1 does
abbrev pub taken_over : ℕ → ℕ → ℕ → List Literal
taken_over n k i = not_in_hole n i k ∷ in_hole n (k + 1) k ∷ []
