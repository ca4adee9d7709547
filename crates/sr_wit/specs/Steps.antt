-- Steps and items of their parts.
use Rattle.std.specs.Prelude.{ℕ, List, Option, Some, None}
use Rattle.sr_base.specs.Literal.{Literal}
use Rattle.sr_model.specs.Substitution.{Witness, IsPivot}
use Rattle.sr_model.specs.Meeting.{Step, Group}

abbrev pub step_with : ℕ → List Literal → Option Witness → List ℕ → List Group → Step
step_with id clause witness prefix groups = record { id = id; clause = clause; witness = witness; prefix = prefix; groups = groups }

-- a witness is given whose pivot isn't the clause's first literal
abbrev pub LacksPivot : List Literal → Option Witness → Type 0
LacksPivot clause None = ⊥
LacksPivot clause (Some w) = ¬ IsPivot w.pivot clause
