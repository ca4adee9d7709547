-- The order of a clause's literals plays no part: laws of the definitions.
use Rattle.std.specs.Prelude.{ℕ, ◌≡◌, Bool, List, length, All}
use Rattle.sr_base.specs.Literal.{Literal, NoRepeats, SameSet}
use Rattle.sr_base.specs.Limits.{LimitValues}
use Rattle.sr_model.specs.Refutation.{Refutes}
use Rattle.sr_model.specs.Substitution.{Substitution, reduction, IsPivot}
use Rattle.sr_model.specs.Redundancy.{Rup, Sr}
use Rattle.sr_model.specs.Chain.{Numbered, chain}
use Rattle.sr_model.specs.Meeting.{Step, needs_hints, meets, meets_over}
use Rattle.sr_model.specs.Judging.{Item, judge}
use Rattle.sr_model.specs.ReadAgain.{IsClause, IsStep}
use Rattle.sr_trimming.specs.Lean.{is_lean, IsLean}
use Rattle.sr_trimming.specs.Reordered.{IsReordered, put_first, AreReorderedClauses, AreReordered, EndAlike, ReducedAlike, IsRewritten, IsStepRewritten, AreItemsRewritten}

-- hints over reordered clauses, from the same literals, end alike: closed, with the same literals, or at the same fault
abbrev pub ChainsSeeSets : Type 0
ChainsSeeSets = (strict : Bool) (live mem : Numbered) (a b : List Literal) (hints : List ℕ) → AreReordered live mem → SameSet a b → EndAlike (chain strict live a hints) (chain strict mem b hints)

-- and are as lean
abbrev pub LeanChainsSeeSets : Type 0
LeanChainsSeeSets = (live mem : Numbered) (a b : List Literal) (hints : List ℕ) → AreReordered live mem → SameSet a b → is_lean live a hints ≡ is_lean mem b hints

-- a substitution leaves the same of the same literals, and what is left needs hints or not
abbrev pub ReductionsSeeSets : Type 0
ReductionsSeeSets = (w : Substitution) (c d : List Literal) → SameSet c d → ReducedAlike (reduction w c) (reduction w d)

abbrev pub NeedsSeeSets : Type 0
NeedsSeeSets = (w : Substitution) (a b c d : List Literal) → SameSet a b → SameSet c d → needs_hints a (reduction w c) ≡ needs_hints b (reduction w d)

-- reordered clauses refute the same
abbrev pub RefutationSeesSets : Type 0
RefutationSeesSets = (cs ds : List (List Literal)) (a b : List Literal) → AreReorderedClauses cs ds → SameSet a b → Refutes cs a → Refutes ds b

abbrev pub RupSeesSets : Type 0
RupSeesSets = (cs ds : List (List Literal)) (c d : List Literal) → AreReorderedClauses cs ds → SameSet c d → Rup cs c → Rup ds d

abbrev pub RedundancySeesSets : Type 0
RedundancySeesSets = (cs ds ms ns : List (List Literal)) (c d : List Literal) (w : Substitution) → AreReorderedClauses cs ds → AreReorderedClauses ms ns → IsRewritten c d → Sr cs ms c w → Sr ds ns d w

-- a step whose clause is reordered after its first literal is met alike, or rejected for the same cause
abbrev pub MeetingsSeeSets : Type 0
MeetingsSeeSets = (strict : Bool) (live mem : Numbered) (last : ℕ) (s t : Step) → AreReordered live mem → IsStepRewritten s t
    → (meets strict live last s ≡ meets strict mem last t) × (meets_over strict live s ≡ meets_over strict mem t)

-- and is as lean
abbrev pub LeanStepsSeeSets : Type 0
LeanStepsSeeSets = (live mem : Numbered) (s t : Step) → AreReordered live mem → IsStepRewritten s t → IsLean live s → IsLean mem t

-- so a proof with such steps is judged alike
abbrev pub JudgingSeesSets : Type 0
JudgingSeesSets = (strict : Bool) (f : List (List Literal)) (is js : List Item) → All NoRepeats f → AreItemsRewritten is js → judge strict f is ≡ judge strict f js

-- a clause in any order, with its pivot put first, may be written; it is as long
abbrev pub PivotIsPutFirst : Type 0
PivotIsPutFirst = (p : Literal) (c d : List Literal) → IsPivot p c → IsReordered c d → IsRewritten c (put_first p d) × (length (put_first p d) ≡ length c)

-- a reordered clause is as long, and within the same limits
abbrev pub OrderKeepsLimits : Type 0
OrderKeepsLimits = (vars : ℕ) (c d : List Literal) → IsReordered c d → (length c ≡ length d) × (IsClause vars c → IsClause vars d)

-- so what may be written of the one step may be written of the other
abbrev pub StepsKeepLimits : Type 0
StepsKeepLimits = (lim : LimitValues) (s t : Step) → IsStepRewritten s t → IsStep lim s → IsStep lim t
