-- What unit propagation reaches, said by closed sets: a set of literals that holds each literal that a clause forces
-- is closed, and what unit propagation reaches is what every closed set holds.
use Rattle.std.specs.Prelude.{Bool, true, false, ◌≡◌, ◌≢◌, ◌⊎◌, List, [], ◌∷◌}
use Rattle.std.specs.List.{list_any}
use Rattle.sr_base.specs.Literal.{Literal, complement, has}

-- if the complements of the clause's other literals are all in the set, then so is the literal
abbrev pub IsClosedFor : List Literal → List Literal → Type 0
IsClosedFor b c = (l : Literal) → has l c ≡ true → ((k : Literal) → has k c ≡ true → k ≢ l → has (complement k) b ≡ true) → has l b ≡ true

-- the set is closed under the clauses
abbrev pub IsClosed : List Literal → List (List Literal) → Type 0
IsClosed b [] = Unit {0}
IsClosed b (c ∷ cs) = IsClosedFor b c × IsClosed b cs

-- the second set holds what the first one holds
abbrev pub Includes : List Literal → List Literal → Type 0
Includes a b = (l : Literal) → has l a ≡ true → has l b ≡ true

-- the set holds a literal and its complement
abbrev pub HoldsPair : List Literal → Type 0
HoldsPair b = (l : Literal) × (has l b ≡ true) × (has (complement l) b ≡ true)

-- whether a clause is empty
abbrev pub is_empty : List Literal → Bool
is_empty [] = true
is_empty (l ∷ ls) = false

-- whether one of the clauses is empty
abbrev pub has_empty : List (List Literal) → Bool
has_empty cs = list_any is_empty cs

-- the clauses refute the literals: one of them is empty, or unit propagation from the literals reaches a complementary pair
abbrev pub Refutes : List (List Literal) → List Literal → Type 0
Refutes s a = (has_empty s ≡ true) ⊎ ((b : List Literal) → Includes a b → IsClosed b s → HoldsPair b)
