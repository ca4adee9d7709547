-- Clauses of which one literal is true and the others are false.
use Rattle.std.specs.Prelude.{Bool, true, false, not, ◌&&◌, Option, Some, None, List, [], ◌∷◌}
use Rattle.sr_base.specs.Literal.{Literal}
use Rattle.sr_watch.specs.State.{value_in}

-- with the value of one literal more, where a true one was met or not
abbrev pub unit_with : Bool → Option Bool → (Bool → Bool) → Bool
unit_with met None rest = false
unit_with met (Some true) rest = not met && rest true
unit_with met (Some false) rest = rest met

-- exactly one literal is true, or none where one was met, and the others are false
abbrev pub is_unit_of : List Literal → Bool → List Literal → Bool
is_unit_of entries met [] = met
is_unit_of entries met (l ∷ ls) = unit_with met (value_in entries l) (λ m. is_unit_of entries m ls)
