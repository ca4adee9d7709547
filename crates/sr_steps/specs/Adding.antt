-- How a table of steps grows.
use Rattle.std.specs.Prelude.{ℕ, Bool, false, ◌≡◌, List, [], ◌∷◌, ◌++◌, map}
use Rattle.sr_model.specs.Assignment.{holds_number}
use Rattle.sr_model.specs.Meeting.{Group}
use Rattle.sr_steps.specs.Kept.{Kept}

-- a step without hints
abbrev pub bare : ℕ → Bool → Kept
bare id by_witness = record { id = id; by_witness = by_witness; prefix = []; groups = [] }

-- whether the first step has a witness, and so takes groups
abbrev pub takes_groups : List Kept → Bool
takes_groups [] = false
takes_groups (k ∷ ks) = k.by_witness

abbrev pub first_groups : List Kept → List Group
first_groups [] = []
first_groups (k ∷ ks) = k.groups

-- the first step with other groups
abbrev pub with_groups : List Group → List Kept → List Kept
with_groups gs [] = []
with_groups gs (k ∷ ks) = record k { groups = gs } ∷ ks

-- the first step has one group more
abbrev pub with_group : Group → List Kept → List Kept
with_group g ks = with_groups (first_groups ks ++ g ∷ []) ks

-- no two groups are of one number
abbrev pub AreOfDistinct : List Group → Type 0
AreOfDistinct [] = Unit {0}
AreOfDistinct (g ∷ gs) = (holds_number g.0 (map (λ k. k.0) gs) ≡ false) × AreOfDistinct gs
