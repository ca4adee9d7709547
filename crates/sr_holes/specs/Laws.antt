-- What the formula of the pigeonhole principle says. Each law is the contract of a public function.
use Rattle.std.specs.Prelude.{ℕ, ◌+◌, ◌<◌, ◌≤◌, ◌≡◌, ◌⊎◌, ◌↔◌, true, List, length, Contains}
use Rattle.sr_base.specs.Literal.{Literal}
use Rattle.sr_base.specs.Limits.{LimitValues, shipped}
use Rattle.sr_base.specs.Contents.{whole}
use Rattle.sr_model.specs.Assignment.{holds_number, satisfies_all, Unsat}
use Rattle.sr_model.specs.Tokens.{finished}
use Rattle.sr_model.specs.TextTokens.{spelled}
use Rattle.sr_model.specs.Reading.{reads}
use Rattle.sr_model.specs.Dimacs.{formula_at}
use Rattle.sr_model.specs.Writing.{written_formula}
use Rattle.sr_model.specs.ReadAgain.{AreLimits}
use Rattle.sr_holes.specs.declared.literals.TheConstants.{MOST_HOLES}
use Rattle.sr_holes.specs.Holes.{seat, in_some_hole, not_both, pigeonhole_formula}

abbrev pub IsPigeon : ℕ → ℕ → Type 0
IsPigeon n p = (1 ≤ p) × (p ≤ n + 1)

abbrev pub IsHole : ℕ → ℕ → Type 0
IsHole n h = (1 ≤ h) × (h ≤ n)

-- the clause says that one of the pigeons sits in a hole
pub record IsOfPigeon (n : ℕ) (c : List Literal) : Type 0 where
  pub pigeon : ℕ
  pub is_pigeon : IsPigeon n pigeon
  pub is : c ≡ in_some_hole n pigeon

-- the clause says that two of the pigeons don't both sit in one of the holes
pub record IsOfPair (n : ℕ) (c : List Literal) : Type 0 where
  pub hole : ℕ
  pub first : ℕ
  pub second : ℕ
  pub is_hole : IsHole n hole
  pub is_first : IsPigeon n first
  pub is_second : IsPigeon n second
  pub order : first < second
  pub is : c ≡ not_both n hole first second

-- the formula has the clause of each pigeon, and those of each hole and each two pigeons, and no others
abbrev pub FormulaHasClauses : Type 0
FormulaHasClauses = (n : ℕ) (c : List Literal) → Contains (pigeonhole_formula n).clauses c ↔ (IsOfPigeon n c ⊎ IsOfPair n c)

-- each pigeon and each hole have a variable of their own, and these are all
abbrev pub SeatsDiffer : Type 0
SeatsDiffer = (n p q h g : ℕ) → IsPigeon n p → IsPigeon n q → IsHole n h → IsHole n g
    → (1 ≤ seat n p h) × (seat n p h ≤ (pigeonhole_formula n).vars) × (seat n p h ≡ seat n q g → (p ≡ q) × (h ≡ g))

-- the assignment has the pigeon sit in the hole
abbrev pub Sits : ℕ → List ℕ → ℕ → ℕ → Type 0
Sits n t p h = holds_number (seat n p h) t ≡ true

-- it has each pigeon sit in a hole, and no two in the same one
pub record IsSeating (n : ℕ) (t : List ℕ) : Type 0 where
  pub each : (p : ℕ) → IsPigeon n p → (h : ℕ) × IsHole n h × Sits n t p h
  pub apart : (h p q : ℕ) → IsHole n h → IsPigeon n p → IsPigeon n q → Sits n t p h → Sits n t q h → p ≡ q

-- these are the assignments that satisfy the formula
abbrev pub FormulaAsksForSeating : Type 0
FormulaAsksForSeating = (n : ℕ) (t : List ℕ) → (satisfies_all t (pigeonhole_formula n).clauses ≡ true) ↔ IsSeating n t

-- and there are none
abbrev pub PigeonsDontFit : Type 0
PigeonsDontFit = (n : ℕ) → Unsat (pigeonhole_formula n).clauses

-- the formula and its text are within the limits
pub record FitsLimits (lim : LimitValues) (n : ℕ) : Type 0 where
  pub vars : (pigeonhole_formula n).vars ≤ lim.vars
  pub count : length (pigeonhole_formula n).clauses < lim.ids
  pub bytes : length (written_formula (pigeonhole_formula n)) ≤ lim.bytes

-- then the text is read again as this formula
abbrev pub FormulaReadsAgain : Type 0
FormulaReadsAgain = (lim : LimitValues) (n : ℕ) → AreLimits lim → FitsLimits lim n
    → formula_at lim (spelled lim.bytes (whole (written_formula (pigeonhole_formula n))))
    ≡ reads (pigeonhole_formula n) (finished (length (written_formula (pigeonhole_formula n))))

-- the limits that the program ships with suffice for as many holes as there may be
abbrev pub ShippedLimitsSuffice : Type 0
ShippedLimitsSuffice = (n : ℕ) → n ≤ MOST_HOLES → FitsLimits shipped n
