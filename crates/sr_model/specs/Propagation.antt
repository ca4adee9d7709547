-- One step of unit propagation, for the plain test of refutation.
use Rattle.std.specs.Prelude.{Bool, true, false, ◌≡◌, ◌||◌, ◌⊎◌, List, [], ◌∷◌}
use Rattle.std.specs.List.{list_all}
use Rattle.sr_base.specs.Literal.{Literal, complement, same, has}

-- whether the complements of the clause's other literals are all in the set
abbrev pub is_forced : List Literal → List Literal → Literal → Bool
is_forced b c l = list_all (λ k. same k l || has (complement k) b) c

-- the literal is of the clause, is forced and is not in the set
pub record IsNewIn (b c : List Literal) (l : Literal) : Type 0 where
  pub of_clause : has l c ≡ true
  pub is_new : has l b ≡ false
  pub forced : is_forced b c l ≡ true

-- it is new in one of the clauses
abbrev pub IsNewOf : List Literal → List (List Literal) → Literal → Type 0
IsNewOf b [] l = ⊥
IsNewOf b (c ∷ cs) l = IsNewIn b c l ⊎ IsNewOf b cs l
