-- What is kept of a run.
use Rattle.std.specs.Prelude.{ℕ, List}
use Rattle.sr_base.specs.Limits.{shipped}
use Rattle.sr_desk.specs.Outside.{Outside}
use Rattle.sr_desk.specs.Host.{IsUnused}
use Rattle.sr_emit.specs.declared.outcome.Outcome.{Outcome}
use Rattle.sr_cli.specs.Words.{asked}
use Rattle.sr_cli.specs.Run.{Runs, IsSound, SaysSo, HasRunCause, StaysUnwritten}
use Rattle.sr_cli.specs.Touching.{GivesFiles, OnlyTouches}

-- the words were run from one outside to another, with this outcome
pub record IsRun (words : List (List ℕ)) (old new : Outside) (o : Outcome) : Type 0 where
  pub runs : Runs shipped (asked words) old new o
  pub sound : IsSound shipped (asked words) new o
  pub printed : SaysSo shipped (asked words) old new
  pub cause : HasRunCause (asked words) old new o
  pub files : GivesFiles (asked words) old new
  pub only : OnlyTouches (asked words) old new
  pub memory : StaysUnwritten (asked words) old new o

-- they were run on an outside of which nothing was used, up to this one
abbrev pub HasRun : List (List ℕ) → Outside → Outcome → Type 0
HasRun words new o = (old : Outside) × (IsUnused old × IsRun words old new o)
