-- Steps in flat lists: each step and each group has the places of its hints.
use Rattle.std.specs.Prelude.{ℕ, ◌≤◌, ◌≡◌, cond, List, [], ◌∷◌, length, map, reverse, slice_range, All}
use Rattle.sr_model.specs.Meeting.{Group}
use Rattle.sr_steps.specs.Kept.{Kept}
use Rattle.sr_steps.specs.Groups.{group_of, IsWithin}
use Rattle.sr_steps.specs.declared.place.GroupPlace.{GroupPlace}
use Rattle.sr_steps.specs.declared.table.StepPlace.{StepPlace}

-- of a step with a witness the places are those of its groups, of another those of its hints
abbrev pub kept_of : List ℕ → List Group → StepPlace → Kept
kept_of hints groups s = record {
  id = s.id;
  by_witness = s.by_witness;
  prefix = cond s.by_witness [] (slice_range hints s.start s.end);
  groups = cond s.by_witness (slice_range groups s.start s.end) [];
}

-- the step that was added last comes first
abbrev pub steps_in : List ℕ → List GroupPlace → List StepPlace → List Kept
steps_in hints groups steps = reverse (map (kept_of hints (map (group_of hints) groups)) steps)

-- where the groups of a step end, if those before it end here
abbrev pub groups_end : ℕ → StepPlace → ℕ
groups_end from s = cond s.by_witness s.end from

abbrev pub LiesAt : ℕ → ℕ → StepPlace → Type 0
LiesAt hints from s = cond s.by_witness ((s.start ≡ from) × (from ≤ s.end)) ((s.start ≤ s.end) × (s.end ≤ hints))

-- the groups of each step lie behind those of the one before it, from a place on and up to another
abbrev pub LieFrom : ℕ → ℕ → List StepPlace → ℕ → Type 0
LieFrom hints from [] end = from ≡ end
LieFrom hints from (s ∷ ss) end = LiesAt hints from s × LieFrom hints (groups_end from s) ss end

pub record AreLaid (hints : List ℕ) (groups : List GroupPlace) (steps : List StepPlace) : Type 0 where
  pub within : All (IsWithin hints) groups
  pub apart : LieFrom (length hints) 0 steps (length groups)
