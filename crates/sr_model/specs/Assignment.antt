-- Assignments of propositional logic, and what they satisfy. An assignment is the finite set of the variables that are true.
use Rattle.std.specs.Prelude.{ℕ, Bool, true, false, not, ◌||◌, ◌&&◌, ◌==◌, ◌≡◌, List, [], ◌∷◌}
use Rattle.sr_base.specs.Literal.{Literal, plus, minus}

-- whether a list of numbers holds one
abbrev pub holds_number : ℕ → List ℕ → Bool
holds_number v [] = false
holds_number v (w ∷ ws) = (w == v) || holds_number v ws

-- whether the assignment makes a literal true
abbrev pub makes_true : List ℕ → Literal → Bool
makes_true t (plus v) = holds_number v t
makes_true t (minus v) = not (holds_number v t)

-- whether it makes one of the literals true
abbrev pub satisfies : List ℕ → List Literal → Bool
satisfies t [] = false
satisfies t (l ∷ ls) = makes_true t l || satisfies t ls

-- whether it satisfies each clause
abbrev pub satisfies_all : List ℕ → List (List Literal) → Bool
satisfies_all t [] = true
satisfies_all t (c ∷ cs) = satisfies t c && satisfies_all t cs

-- whether it makes each literal true
abbrev pub makes_all_true : List ℕ → List Literal → Bool
makes_all_true t [] = true
makes_all_true t (l ∷ ls) = makes_true t l && makes_all_true t ls

-- no assignment satisfies the clauses
abbrev pub Unsat : List (List Literal) → Type 0
Unsat s = (t : List ℕ) → satisfies_all t s ≡ false
