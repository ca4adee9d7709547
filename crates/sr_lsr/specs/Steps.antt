-- How a step is made of what was read.
use Rattle.std.specs.Prelude.{ℕ, ◌≡◌, List, Some, None, Result, Ok, Err}
use Rattle.sr_base.specs.Literal.{Literal}
use Rattle.sr_model.specs.Meeting.{Step, Group}
use Rattle.sr_model.specs.Witnesses.{fault_of_literals, clause_of_literals, witness_of_literals}
use Rattle.sr_base.specs.declared.names.InputError.{InputError}
use Rattle.sr_base.specs.declared.names.InputError.TheVariants.{Text, Limit, Source, NoMemory}

-- the step of all its literals and its hints
abbrev pub GivesStep : ℕ → List Literal → ℕ → List ℕ → List Group → Result Step InputError → Type 0
GivesStep id lits end prefix groups (Ok s) = (fault_of_literals lits ≡ None)
    × (s ≡ record { id = id; clause = clause_of_literals lits; witness = witness_of_literals lits; prefix = prefix; groups = groups })
GivesStep id lits end prefix groups (Err (Text kind place)) = (fault_of_literals lits ≡ Some kind) × (place ≡ end)
GivesStep id lits end prefix groups (Err (Limit kind)) = ⊥
GivesStep id lits end prefix groups (Err Source) = ⊥
GivesStep id lits end prefix groups (Err NoMemory) = Unit {0}
