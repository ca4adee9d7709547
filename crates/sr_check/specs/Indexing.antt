-- Groups by the numbers of their clauses.
use Rattle.std.specs.Prelude.{ℕ, ◌+◌, ◌≡◌, ◌==◌, ◌&&◌, false, is_some, cond, List, [], ◌∷◌, map}
use Rattle.sr_model.specs.Assignment.{holds_number}
use Rattle.sr_model.specs.Chain.{Numbered, clause_of}
use Rattle.sr_occurs.specs.Occurring.{IsLive}
use Rattle.sr_model.specs.Meeting.{Group}
use Rattle.sr_table.specs.Pages.{Paged, entry}

abbrev pub numbers : List Group → List ℕ
numbers gs = map (λ g. g.0) gs

-- the place of the first group of a number, where the first place is `k`; 0 where there is none
abbrev pub place_from : ℕ → List Group → ℕ → ℕ
place_from k [] n = 0
place_from k (g ∷ gs) n = cond (g.0 == n) k (place_from (k + 1) gs n)

-- a table that leads nowhere
abbrev pub IsClear : Paged → Type 0
IsClear index = (n : ℕ) → entry index n ≡ 0

-- a table that leads from the numbers of the groups alone
abbrev pub IsWithin : Paged → List Group → Type 0
IsWithin index gs = (n : ℕ) → holds_number n (numbers gs) ≡ false → entry index n ≡ 0

-- a table that leads from the number of each live clause to the place of its first group
abbrev pub IsIndex : Paged → Numbered → List Group → Type 0
IsIndex index live gs = (n : ℕ) → IsLive live n → entry index n ≡ place_from 1 gs n

-- a live clause is led to a place, if it was led nowhere
abbrev pub Notes : Numbered → Paged → Paged → ℕ → ℕ → Type 0
Notes live old new number place = (n : ℕ) → entry new n ≡ cond (number == n && is_some (clause_of live number) && entry old
    number == 0) place (entry old n)
