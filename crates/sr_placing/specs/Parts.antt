-- The parts of a step as they are put.
use Rattle.std.specs.Prelude.{ℕ, ◌≡◌, List, [], ◌∷◌, ◌++◌, Option, Some, None, pos, map, All}
use Rattle.sr_base.specs.Literal.{Literal}
use Rattle.sr_base.specs.declared.names.Form.{Form}
use Rattle.sr_model.specs.Substitution.{Witness}
use Rattle.sr_model.specs.Writing.{groups_written}
use Rattle.sr_trimming.specs.Loading.{at_start}
use Rattle.sr_trimming.specs.From.{Place, place_of}
use Rattle.sr_scan.specs.Written.{written_numbers, written_end}
use Rattle.sr_lsr.specs.Written.{IsSmall, IsSmallGroup, step_start}
use Rattle.sr_steps.specs.Kept.{Kept}
use Rattle.sr_load.specs.Loaded.{LoadedState, all_lines}

-- a step of numbers that each file can have
pub record IsSmallKept (k : Kept) : Type 0 where
  pub small_id : IsSmall k.id
  pub small_prefix : All IsSmall k.prefix
  pub small_groups : All IsSmallGroup k.groups

-- the lemma of a number
abbrev pub IsPlaceOf : LoadedState → ℕ → Place → Type 0
IsPlaceOf st n p = place_of (at_start st.formula.clauses) (all_lines st) n ≡ Some p

-- the witness that is written, or that which makes the pivot true alone
abbrev pub witness_or : Literal → Option Witness → Witness
witness_or p None = record { pivot = p; assigned = []; maps = [] }
witness_or p (Some w) = w

-- what stands before the literals of a step, and what stands after them
abbrev pub start_put : Form → ℕ → List ℕ
start_put form id = step_start form ++ written_numbers form (pos id ∷ [])

abbrev pub hints_put : Form → Kept → List ℕ
hints_put form k = written_numbers form (pos 0 ∷ (map pos k.prefix ++ groups_written k.groups)) ++ written_end form
