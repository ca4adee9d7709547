-- Clauses by number, as a table leads to them.
use Rattle.std.specs.Prelude.{ℕ, ◌-◌, ◌≡◌, Bool, false, List, slice_index_or, Some, is_some}
use Rattle.sr_base.specs.Literal.{Literal}
use Rattle.sr_model.specs.Chain.{Numbered, clause_of}

-- what a list holds for a number, which begin with 1
abbrev pub entry_of : List ℕ → ℕ → ℕ
entry_of refs n = slice_index_or refs (n - 1) 0

abbrev pub flag_of : List Bool → ℕ → Bool
flag_of flags n = slice_index_or flags (n - 1) false

-- whether clauses have one of the number
abbrev pub has_clause : Numbered → ℕ → Bool
has_clause live n = is_some (clause_of live n)

-- the clause of each number is that of the others
abbrev pub IsOf : Numbered → Numbered → Type 0
IsOf some all = (n : ℕ) (c : List Literal) → clause_of some n ≡ Some c → clause_of all n ≡ Some c
