-- The turns of a backward pass: what is kept while lines are taken back.
use Rattle.std.specs.Prelude.{ℕ, ◌+◌, ◌<◌, Bool, true, false, ◌≡◌, ◌⊎◌, Option, Some, None, List, [], All}
use Rattle.sr_base.specs.Literal.{Literal, NoRepeats}
use Rattle.sr_model.specs.Assignment.{holds_number}
use Rattle.sr_model.specs.Refutation.{is_empty}
use Rattle.sr_model.specs.Redundancy.{Rup}
use Rattle.sr_model.specs.Chain.{clauses}
use Rattle.sr_model.specs.Meeting.{Group, Step}
use Rattle.sr_steps.specs.Kept.{Kept}
use Rattle.sr_trimming.specs.Citing.{is_cited, all_of}
use Rattle.sr_trimming.specs.Placing.{numbers}
use Rattle.sr_trimming.specs.Loading.{Done, at_start, after_all, InConflict}
use Rattle.sr_trimming.specs.From.{all_loaded, Place, AreFrom}
use Rattle.sr_trimming.specs.Backward.{AreLinked}
use Rattle.sr_trimming.specs.Trimmed.{LeanByNeed}
use Rattle.sr_trimming.specs.CoreFirst.{AreCoreFirst}
use Rattle.sr_trimming.specs.Evidence.{FailsAt}
use Rattle.sr_load.specs.Loaded.{LoadedState, all_lines, all_in, alive_in, standing_in}
use Rattle.sr_back.specs.Citing.{CitedAreAlive}
use Rattle.sr_back.specs.Testing.{place_in, steps_in, IsTested}

-- the later steps of a pass, above a number
pub record IsTail (f : List (List Literal)) (ds : List Done) (last : ℕ) (steps : List Step) : Type 0 where
  pub linked : AreLinked last steps
  pub from : AreFrom f ds steps
  pub lean : LeanByNeed (all_loaded f ds) steps
  pub core_first : AreCoreFirst (all_loaded f ds) steps

abbrev pub tail_in : LoadedState → ℕ → List Step → Type 0
tail_in st last steps = IsTail st.formula.clauses (all_lines st) last steps

-- each number that a step cites is below another one, or that of a formula clause or of a step
abbrev pub AreKnownFrom : LoadedState → ℕ → List Step → Type 0
AreKnownFrom st next steps = (n : ℕ) → is_cited n steps ≡ true → (n < next) ⊎ (holds_number n (numbers (all_of st.formula.clauses steps)) ≡ true)

-- what holds of a loaded proof throughout
pub record IsSound (st : LoadedState) : Type 0 where
  pub in_conflict : InConflict (after_all (at_start st.formula.clauses) (all_lines st)).alive
  pub distinct : All NoRepeats (clauses (all_in st))

-- the steps that are kept are the later steps of a pass, and cite what is cited
pub record IsKept (st : LoadedState) (steps : List Step) : Type 0 where
  pub sound : IsSound st
  pub passed : (last : ℕ) → (standing_in st).next ≡ last + 1 → tail_in st last steps
  pub cites : (n : ℕ) → holds_number n st.cited ≡ is_cited n steps
  pub alive : CitedAreAlive st
  pub known : AreKnownFrom st (standing_in st).next steps

-- the line of a lemma that a later step cites was taken back
pub record IsTurn (st : LoadedState) (id : ℕ) (steps : List Step) : Type 0 where
  pub sound : IsSound st
  pub place : Place
  pub is_place : place_in st id ≡ Some place
  pub before : place.alive ≡ alive_in st
  pub full : is_empty place.stated.clause ≡ false
  pub number : id ≡ (standing_in st).next
  pub tail : tail_in st id steps
  pub cited : is_cited id steps ≡ true
  pub cites : (n : ℕ) → holds_number n st.cited ≡ is_cited n steps
  pub alive : CitedAreAlive st
  pub known : AreKnownFrom st (id + 1) steps

-- propagation doesn't show the lemma: the complements of its literals are assumed, and no step is kept
pub record IsOpen (st : LoadedState) (id : ℕ) (was kept : List Kept) : Type 0 where
  pub place : Place
  pub tested : IsTested st id was place
  pub not_rup : ¬ Rup (clauses place.alive) place.stated.clause
  pub turn : IsTurn st id (steps_in st was)
  pub same : kept ≡ was

-- its step is kept; or it is left open
abbrev pub PropagationEnd : LoadedState → ℕ → List Kept → List Kept → Bool → Type 0
PropagationEnd st id was kept true = IsKept st (steps_in st kept) × (st.assumed ≡ [])
PropagationEnd st id was kept false = IsOpen st id was kept

-- the lemma's step is kept; or its test fails at a clause
abbrev pub LemmaEnd : LoadedState → ℕ → List Kept → Option ℕ → Type 0
LemmaEnd st id kept None = IsKept st (steps_in st kept)
LemmaEnd st id kept (Some against) = (groups : List Group) × (tail : List Step) × FailsAt st.formula.clauses (all_lines st) id against groups tail
