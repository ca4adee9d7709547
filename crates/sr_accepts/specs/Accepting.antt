-- Both commands on one formula: `check` on what `trim` writes.
use Rattle.std.specs.Prelude.{ℕ, ◌≡◌, true, false, is_some, List}
use Rattle.sr_base.specs.Literal.{Literal}
use Rattle.sr_base.specs.Limits.{LimitValues}
use Rattle.sr_base.specs.Contents.{Contents, whole}
use Rattle.sr_model.specs.Refutation.{has_empty}
use Rattle.sr_model.specs.Dimacs.{Formula}
use Rattle.sr_model.specs.Meeting.{Step}
use Rattle.sr_model.specs.ReadAgain.{AreLimits}
use Rattle.sr_trimming.specs.Loading.{Done}
use Rattle.sr_trim.specs.Said.{TrimSaid}
use Rattle.sr_trim.specs.Trimming.{lsr_text, trim_counts}
use Rattle.sr_trim.specs.Deciding.{trims, IsDecided}
use Rattle.sr_emit.specs.declared.counts.Counts.{Counts}
use Rattle.sr_emit.specs.declared.outcome.Outcome.{Outcome}
use Rattle.sr_emit.specs.declared.outcome.Outcome.TheVariants as outcome
use Rattle.sr_cli.specs.Words.{Said}
use Rattle.sr_cli.specs.Check.{IsFirst}

-- it is verified. Where no clause of the formula is empty the whole proof is read, and has as many steps and hints as `trim` counted
pub record IsAccepted (f : List (List Literal)) (ds : List Done) (steps : List Step) (o : Outcome) (k : Counts) : Type 0 where
  pub verified : o ≡ outcome.Verified
  pub same_steps : has_empty f ≡ false → k.steps ≡ (trim_counts f ds steps).steps
  pub same_hints : has_empty f ≡ false → k.hints ≡ (trim_counts f ds steps).hints

-- where `trim` comes to steps and is asked for the proof, whatever event `check` has on the formula and on the file that is
-- written, with the same limits and in the form in which it is written, is that the proof is verified, strictly or not
abbrev pub TrimmedIsAccepted : Type 0
TrimmedIsAccepted = (lim : LimitValues) (s : TrimSaid) (formula proof : Contents) (f : Formula) (ds : List Done) (steps : List Step) (begun : ℕ) (said : Said) (o : Outcome) (k : Counts) (checked : ℕ)
    → AreLimits lim → IsDecided lim s formula proof (trims f ds steps) begun → is_some s.lsr ≡ true → said.proof_form ≡ s.lsr_form
    → IsFirst lim said formula (whole (lsr_text s.lsr_form f.clauses steps)) o k checked → IsAccepted f.clauses ds steps o k
