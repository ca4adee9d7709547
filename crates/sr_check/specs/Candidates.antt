-- Clauses in rising order of number, and the clauses of numbers tried in order.
use Rattle.std.specs.Prelude.{ℕ, ◌+◌, ◌≤◌, Bool, List, [], ◌∷◌, Some, None}
use Rattle.sr_base.specs.Literal.{Literal}
use Rattle.sr_model.specs.Substitution.{Substitution, reduction}
use Rattle.sr_model.specs.Chain.{Numbered, clause_of}
use Rattle.sr_model.specs.Meeting.{Group, Meeting, met, both, left_meets}

-- each number is above the one before it
abbrev pub RiseFrom : ℕ → Numbered → Type 0
RiseFrom low [] = Unit {0}
RiseFrom low (p ∷ ps) = (low ≤ p.0) × RiseFrom (p.0 + 1) ps

abbrev pub AreRising : Numbered → Type 0
AreRising live = RiseFrom 0 live

-- how what is left of the clause of a number is met, if there is one
abbrev pub number_meets : Bool → Numbered → List Literal → Substitution → List Group → ℕ → Meeting
number_meets strict live b s gs n = elim (clause_of live n) [ None ↦ met | Some d ↦ left_meets strict live b gs n (reduction s d) ]

-- the numbers are tried in order
abbrev pub list_meets : Bool → Numbered → List Literal → Substitution → List Group → List ℕ → Meeting
list_meets strict live b s gs [] = met
list_meets strict live b s gs (n ∷ ns) = both (number_meets strict live b s gs n) (list_meets strict live b s gs ns)
