-- What literals that were read mean.
use Rattle.std.specs.Prelude.{ℕ, ◌≡◌, List, Option, Some, None, Result, Ok, Err, true, false, Vec, option_map}
use Rattle.std.specs.declared.alloc.Global.{Global}
use Rattle.sr_base.specs.Literal.{Literal}
use Rattle.sr_base.specs.declared.names.TextKind.TheVariants.{OddMap, Twice}
use Rattle.sr_model.specs.Substitution.{Witness}
use Rattle.sr_model.specs.Witnesses.{before, after, pairs, is_odd, parts_of, twice_of, maps_of, witness_by, fault_of_witness, fault_of_literals, witness_of_literals}
use Rattle.sr_base.specs.declared.names.InputError.{InputError}
use Rattle.sr_base.specs.declared.names.InputError.TheVariants.{Text, Limit, Source, NoMemory}

-- the pairs of a literal and its image, of which none is left over
abbrev pub GivesMaps : List Literal → ℕ → Result (Vec (Literal × Literal) Global) InputError → Type 0
GivesMaps lits end (Ok maps) = (is_odd lits ≡ false) × (maps.items ≡ pairs lits)
GivesMaps lits end (Err (Text kind place)) = (is_odd lits ≡ true) × (kind ≡ OddMap) × (place ≡ end)
GivesMaps lits end (Err (Limit kind)) = ⊥
GivesMaps lits end (Err Source) = ⊥
GivesMaps lits end (Err NoMemory) = Unit {0}

-- the witness of its parts
abbrev pub GivesSubst : Literal → List Literal → List (Literal × Literal) → ℕ → Result Witness InputError → Type 0
GivesSubst p trues maps end (Ok w) = (twice_of (parts_of p trues maps) ≡ None) × (w ≡ witness_by p trues maps)
GivesSubst p trues maps end (Err (Text kind place)) = (option_map (λ v. Twice) (twice_of (parts_of p trues maps)) ≡ Some kind) × (place ≡ end)
GivesSubst p trues maps end (Err (Limit kind)) = ⊥
GivesSubst p trues maps end (Err Source) = ⊥
GivesSubst p trues maps end (Err NoMemory) = Unit {0}

-- the witness of the literals behind the second pivot
abbrev pub GivesWitness : Literal → List Literal → ℕ → Result Witness InputError → Type 0
GivesWitness p lits end (Ok w) = (fault_of_witness p (Some lits) ≡ None) × (w ≡ witness_by p (before p lits) (maps_of (after p lits)))
GivesWitness p lits end (Err (Text kind place)) = (fault_of_witness p (Some lits) ≡ Some kind) × (place ≡ end)
GivesWitness p lits end (Err (Limit kind)) = ⊥
GivesWitness p lits end (Err Source) = ⊥
GivesWitness p lits end (Err NoMemory) = Unit {0}

-- the witness among all literals
abbrev pub FindsWitness : List Literal → ℕ → Result (Option Witness) InputError → Type 0
FindsWitness lits end (Ok w) = (fault_of_literals lits ≡ None) × (w ≡ witness_of_literals lits)
FindsWitness lits end (Err (Text kind place)) = (fault_of_literals lits ≡ Some kind) × (place ≡ end)
FindsWitness lits end (Err (Limit kind)) = ⊥
FindsWitness lits end (Err Source) = ⊥
FindsWitness lits end (Err NoMemory) = Unit {0}
