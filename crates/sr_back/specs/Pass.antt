-- What the backward pass makes of a loaded proof.
use Rattle.std.specs.Prelude.{◌≡◌, List, length, map}
use Rattle.sr_base.specs.Literal.{Literal}
use Rattle.sr_model.specs.Meeting.{Group, Step}
use Rattle.sr_steps.specs.Kept.{Kept, step_of}
use Rattle.sr_trimming.specs.Loading.{Done, at_start}
use Rattle.sr_trimming.specs.From.{all_loaded, AreFrom}
use Rattle.sr_trimming.specs.Backward.{AreLinked}
use Rattle.sr_trimming.specs.Trimmed.{LeanByNeed}
use Rattle.sr_trimming.specs.CoreFirst.{AreCoreFirst}
use Rattle.sr_trimming.specs.Written.{CiteKnown}
use Rattle.sr_trimming.specs.Evidence.{FailsAt, EachPasses}
use Rattle.sr_load.specs.Loaded.{LoadedState, all_lines}
use Rattle.sr_back.specs.declared.passing.Back.{Back}
use Rattle.sr_back.specs.declared.passing.Back.TheVariants.{Done as whole, Failed}

-- the steps of what is kept, with the clauses as they were read
abbrev pub steps_of : List (List Literal) → List Done → List Kept → List Step
steps_of f ds ks = map (step_of f ds) ks

-- linked steps that come from the lemmas, lean over what is needed, with cited clauses first
pub record IsWholePass (f : List (List Literal)) (ds : List Done) (kept : List Kept) : Type 0 where
  pub linked : AreLinked (length f) (steps_of f ds kept)
  pub from : AreFrom f ds (steps_of f ds kept)
  pub known : CiteKnown f (steps_of f ds kept)
  pub lean : LeanByNeed (all_loaded f ds) (steps_of f ds kept)
  pub core_first : AreCoreFirst (all_loaded f ds) (steps_of f ds kept)

-- a whole pass; or the test of a lemma that a later step cites fails at a clause
abbrev pub IsPass : LoadedState → Back → Type 0
IsPass st (whole kept) = IsWholePass st.formula.clauses st.standing kept
IsPass st (Failed lemma against) = (groups : List Group) × (tail : List Step) × FailsAt st.formula.clauses st.standing lemma against groups tail

-- where each lemma passes, none fails
abbrev pub FailsRightly : LoadedState → Back → Type 0
FailsRightly st (whole kept) = Unit {0}
FailsRightly st (Failed lemma against) = ¬ EachPasses (at_start st.formula.clauses) st.standing

-- the formula and the lines stay
pub record KeepsProof (old new : LoadedState) : Type 0 where
  pub formula : new.formula ≡ old.formula
  pub lines : all_lines new ≡ all_lines old
