-- Groups of hints that are kept in one list, each from where it starts.
use Rattle.std.specs.Prelude.{ℕ, ◌≤◌, List, [], ◌∷◌, ◌++◌, length, slice_range}
use Rattle.sr_model.specs.Meeting.{Group}
use Rattle.sr_wit.specs.declared.group.GroupStart.{GroupStart}

-- where the hints before these groups end, if so many are the whole
abbrev pub end_before : List GroupStart → ℕ → ℕ
end_before [] whole = whole
end_before (g ∷ gs) whole = g.start

-- no group starts behind the next one, or behind the whole
abbrev pub AreStarts : List GroupStart → ℕ → Type 0
AreStarts [] whole = Unit {0}
AreStarts (g ∷ gs) whole = (g.start ≤ end_before gs whole) × AreStarts gs whole

-- the groups, each with its hints
abbrev pub groups_from : List GroupStart → List ℕ → List Group
groups_from [] hints = []
groups_from (g ∷ gs) hints = (g.id, slice_range hints g.start (end_before gs (length hints))) ∷ groups_from gs hints

-- a hint more in the last group
abbrev pub with_hint : List Group → ℕ → List Group
with_hint [] hint = []
with_hint (g ∷ []) hint = (g.0, g.1 ++ hint ∷ []) ∷ []
with_hint (g ∷ k ∷ gs) hint = g ∷ with_hint (k ∷ gs) hint
