-- What the pass back through a loaded proof comes to.
use Rattle.std.specs.Prelude.{◌≡◌, ◌≤◌, ◌⊎◌, Option, Some, None, List, All, Result, Ok, Err}
use Rattle.sr_base.specs.Limits.{LimitValues}
use Rattle.sr_base.specs.declared.names.Which.{Which}
use Rattle.sr_base.specs.declared.names.LimitKind.TheVariants.{Bytes}
use Rattle.sr_model.specs.Dimacs.{Formula}
use Rattle.sr_model.specs.Meeting.{Step}
use Rattle.sr_trimming.specs.Loading.{Done}
use Rattle.sr_trimming.specs.Reordered.{AreStepsRewritten}
use Rattle.sr_trimming.specs.From.{LemmasHavePivots}
use Rattle.sr_steps.specs.Kept.{Kept}
use Rattle.sr_load.specs.Loaded.{LoadedState, all_lines, next_of}
use Rattle.sr_back.specs.Pass.{IsWholePass, steps_of}
use Rattle.sr_emit.specs.declared.outcome.Outcome.{Outcome}
use Rattle.sr_emit.specs.declared.outcome.Outcome.TheVariants as outcome
use Rattle.sr_trim.specs.Said.{TrimSaid}
use Rattle.sr_placing.specs.Placing.{PlacingValue, placing_of}
use Rattle.sr_emit.specs.declared.counts.Counts.{Counts}
use Rattle.sr_desk.specs.Outside.{Outside}
use Rattle.sr_base.specs.Literal.{NoRepeats}
use Rattle.sr_trim.specs.Trimming.{trim_counts}
use Rattle.sr_trim.specs.Deciding.{Decision, stops, trims, by_length, ByPass}
use Rattle.sr_trim.specs.Outputs.{Writes}
use Rattle.sr_trim.specs.Finding.{AreCounts}
use Rattle.sr_trim.specs.declared.ready.Ready.{Ready}

-- the steps that were kept
abbrev pub kept_steps : LoadedState → List Kept → List Step
kept_steps st ks = steps_of st.formula.clauses (all_lines st) ks

-- a whole pass, over a proof that may be written
pub record IsWritable (st : LoadedState) (kept : List Kept) : Type 0 where
  pub whole : IsWholePass st.formula.clauses (all_lines st) kept
  pub pivots : LemmasHavePivots (all_lines st)
  pub small : next_of st ≤ 2147483647

-- where each clause of the formula and of the steps is deleted
abbrev pub IsPlaced : LoadedState → List Kept → PlacingValue → Type 0
IsPlaced st ks p = p ≡ placing_of st.formula.clauses (kept_steps st ks)

-- the first file that is asked for and passes the limit of bytes, or none does
abbrev pub limited : Formula → List Done → List Step → Option Which → Decision
limited f ds ss None = trims f ds ss
limited f ds ss (Some which) = stops (outcome.Limit which Bytes)

abbrev pub PassesLimit : LimitValues → TrimSaid → Formula → List Done → List Step → Option Which → Type 0
PassesLimit lim s f ds ss which = by_length lim s f ds ss ≡ limited f ds ss which

-- the steps may be written, each clause in some order after its pivot, nothing passes the limit of bytes, and this was counted
pub record IsReady (lim : LimitValues) (s : TrimSaid) (st : LoadedState) (r : Ready) : Type 0 where
  pub writable : IsWritable st r.steps
  pub distinct : All NoRepeats st.formula.clauses
  pub placed : IsPlaced st r.steps r.placing
  pub fits : (ts : List Step) → AreStepsRewritten (kept_steps st r.steps) ts → PassesLimit lim s st.formula (all_lines st) ts None
  pub counts : (ts : List Step) → AreStepsRewritten (kept_steps st r.steps) ts → r.counts ≡ trim_counts st.formula.clauses (all_lines st) ts

-- the steps are ready; else memory ran out, or this was decided
abbrev pub Prepares : LimitValues → TrimSaid → LoadedState → Result Ready Outcome → Type 0
Prepares lim s st (Ok r) = IsReady lim s st r
Prepares lim s st (Err o) = (o ≡ outcome.NoMemory) ⊎ ByPass lim s st.formula (all_lines st) (stops o)

-- the same after the pass back, which keeps the formula and the lines
pub record PreparesTo (lim : LimitValues) (s : TrimSaid) (old new : LoadedState) (result : Result Ready Outcome) : Type 0 where
  pub formula : new.formula ≡ old.formula
  pub lines : all_lines new ≡ old.standing
  pub prepares : Prepares lim s new result

-- memory ran out before anything was written; or this was decided, written and counted
abbrev pub PassesTo : LimitValues → TrimSaid → Formula → List Done → Outside → Outside → Outcome → Counts → Type 0
PassesTo lim s f ds old new o k = ((new ≡ old) × (o ≡ outcome.NoMemory))
    ⊎ ((d : Decision) × ByPass lim s f ds d × Writes s d old new o × AreCounts d k)
