-- From the backward pass to a proof that is judged forward.
use Rattle.std.specs.Prelude.{ℕ, ◌<◌, Bool, true, false, ◌≡◌, List, [], ◌∷◌, length}
use Rattle.sr_base.specs.Literal.{Literal}
use Rattle.sr_model.specs.declared.verdict.Verdict.TheVariants.{Verified}
use Rattle.sr_model.specs.Assignment.{Unsat}
use Rattle.sr_model.specs.Refutation.{is_empty}
use Rattle.sr_model.specs.Chain.{Numbered}
use Rattle.sr_model.specs.Meeting.{Step, met, meets_over, HasPivot}
use Rattle.sr_model.specs.Judging.{Item, Live, first_live, live_with, item_meets, judge}
use Rattle.sr_trimming.specs.Citing.{is_cited, need, all_of, core}
use Rattle.sr_trimming.specs.Placing.{placed}

-- the numbers rise above `last`; the last step is empty, and it alone; each other one is cited by a later one
abbrev pub AreLinked : ℕ → List Step → Type 0
AreLinked last [] = ⊥
AreLinked last (s ∷ []) = (last < s.id) × (is_empty s.clause ≡ true)
AreLinked last (s ∷ t ∷ later) = (last < s.id) × (is_empty s.clause ≡ false) × (is_cited s.id (t ∷ later) ≡ true) × AreLinked s.id (t ∷ later)

-- each step is met over the clauses that it or a later one cites
abbrev pub MeetNeed : Bool → Numbered → List Step → Type 0
MeetNeed strict all [] = Unit {0}
MeetNeed strict all (s ∷ later) = (meets_over strict (need all s later) s ≡ met) × MeetNeed strict all later

abbrev pub StepsHavePivots : List Step → Type 0
StepsHavePivots [] = Unit {0}
StepsHavePivots (s ∷ ss) = HasPivot s × StepsHavePivots ss

-- every item is met over what is live before it
abbrev pub AreMet : Bool → Live → List Item → Type 0
AreMet strict lv [] = Unit {0}
AreMet strict lv (item ∷ items) = (item_meets strict lv item ≡ met) × AreMet strict (live_with lv item) items

-- such steps, placed among deletions, are met over the live clauses, are judged verified, and no assignment satisfies the cited clauses of the formula
abbrev pub BackwardToForward : Type 0
BackwardToForward = (strict : Bool) (f : List (List Literal)) (steps : List Step) → AreLinked (length f) steps → StepsHavePivots steps → MeetNeed strict (all_of f steps) steps
    → AreMet strict (first_live f) (placed f steps) × (judge strict f (placed f steps) ≡ Verified) × Unsat (core f steps)
