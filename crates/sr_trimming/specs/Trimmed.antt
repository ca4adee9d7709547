-- What is written holds nothing spare.
use Rattle.std.specs.Prelude.{Bool, ◌≡◌, List, [], ◌∷◌, length}
use Rattle.sr_base.specs.Literal.{Literal}
use Rattle.sr_model.specs.declared.verdict.Verdict.TheVariants.{Verified}
use Rattle.sr_model.specs.Chain.{Numbered}
use Rattle.sr_model.specs.Meeting.{Step, met, meets_over, HasPivot}
use Rattle.sr_model.specs.Judging.{Item, stepped, dropped, Live, first_live, live_with, judge, HavePivots}
use Rattle.sr_trimming.specs.Citing.{need, all_of, AreRising}
use Rattle.sr_trimming.specs.Placing.{placed}
use Rattle.sr_trimming.specs.Backward.{AreLinked, StepsHavePivots, MeetNeed}
use Rattle.sr_trimming.specs.Lean.{IsLean}

abbrev pub ItemIsLean : Numbered → Item → Type 0
ItemIsLean live (stepped s) = IsLean live s
ItemIsLean live (dropped id ids) = Unit {0}

-- each step is lean over the clauses live before it
abbrev pub AreLean : Live → List Item → Type 0
AreLean lv [] = Unit {0}
AreLean lv (item ∷ items) = ItemIsLean lv.clauses item × AreLean (live_with lv item) items

-- each step is lean over the clauses that it or a later one cites
abbrev pub LeanByNeed : Numbered → List Step → Type 0
LeanByNeed all [] = Unit {0}
LeanByNeed all (s ∷ later) = IsLean (need all s later) s × LeanByNeed all later

pub record IsTrimmed (f : List (List Literal)) (items : List Item) : Type 0 where
  pub steps : List Step
  pub are_placed : items ≡ placed f steps
  pub linked : AreLinked (length f) steps
  pub lean : AreLean (first_live f) items

-- a lean step is met, strictly too; and what is lean over the needed clauses is lean over the live ones
abbrev pub LeanIsMet : Type 0
LeanIsMet = (strict : Bool) (live : Numbered) (s : Step) → AreRising 0 live → HasPivot s → IsLean live s → meets_over strict live s ≡ met

abbrev pub TrimmedByNeed : Type 0
TrimmedByNeed = (f : List (List Literal)) (steps : List Step) → AreLinked (length f) steps → LeanByNeed (all_of f steps) steps → IsTrimmed f (placed f steps)

-- so the backward pass need only promise lean steps
abbrev pub LeanToForward : Type 0
LeanToForward = (strict : Bool) (f : List (List Literal)) (steps : List Step) → AreLinked (length f) steps → StepsHavePivots steps → LeanByNeed (all_of f steps) steps → MeetNeed strict (all_of f steps) steps

-- what is trimmed is verified, strictly too
abbrev pub TrimmedIsVerified : Type 0
TrimmedIsVerified = (strict : Bool) (f : List (List Literal)) (items : List Item) → HavePivots items → IsTrimmed f items → judge strict f items ≡ Verified
