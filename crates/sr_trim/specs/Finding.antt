-- What `trim` finds, writes and answers.
use Rattle.std.specs.Prelude.{◌≡◌, ◌≤◌, ◌⊎◌}
use Rattle.sr_base.specs.Contents.{Contents}
use Rattle.sr_base.specs.Limits.{LimitValues}
use Rattle.sr_desk.specs.Outside.{Outside, Agrees}
use Rattle.sr_emit.specs.declared.outcome.Outcome.{Outcome}
use Rattle.sr_emit.specs.declared.outcome.Outcome.TheVariants as outcome
use Rattle.sr_emit.specs.declared.counts.Counts.{Counts}
use Rattle.sr_files.specs.Files.{ReadsFiles, GivesFile, HasReadCause}
use Rattle.sr_trim.specs.Said.{TrimSaid}
use Rattle.sr_trim.specs.Trimming.{trim_counts}
use Rattle.sr_trim.specs.Deciding.{Decision, stops, trims, IsDecided}
use Rattle.sr_trim.specs.Outputs.{Writes}

-- the counts of what is written
abbrev pub AreCounts : Decision → Counts → Type 0
AreCounts (stops o) k = Unit {0}
AreCounts (trims f ds steps) k = k ≡ trim_counts f.clauses ds steps

-- a failed read is told by the count of its slot
abbrev pub HasDecidedCause : Outside → Outside → Decision → Type 0
HasDecidedCause old mid (stops o) = HasReadCause old mid o
HasDecidedCause old mid (trims f ds steps) = Unit {0}

-- at `mid` the files were read and nothing was written; then what was decided was written
pub record Trims (lim : LimitValues) (s : TrimSaid) (old new : Outside) (o : Outcome) (k : Counts) : Type 0 where
  pub decision : Decision
  pub mid : Outside
  pub reads : ReadsFiles old mid
  pub decided : (formula proof : Contents) → Agrees (mid.slot 0) formula → Agrees (mid.slot 1) proof → IsDecided lim s formula proof decision mid.begun
  pub formula : GivesFile 0 s.formula old mid
  pub proof : 2 ≤ mid.begun → GivesFile 1 s.proof old mid
  pub writes : Writes s decision mid new o
  pub counts : AreCounts decision k
  pub cause : HasDecidedCause old mid decision

-- memory ran out, and nothing was begun for writing
pub record RanOut (s : TrimSaid) (old new : Outside) (o : Outcome) : Type 0 where
  pub is : o ≡ outcome.NoMemory
  pub reads : (new ≡ old) ⊎ ReadsFiles old new
  pub formula : 1 ≤ new.begun → GivesFile 0 s.formula old new
  pub proof : 2 ≤ new.begun → GivesFile 1 s.proof old new

abbrev pub Finds : LimitValues → TrimSaid → Outside → Outside → Outcome → Counts → Type 0
Finds lim s old new o k = RanOut s old new o ⊎ Trims lim s old new o k

-- two files were read; what is known of them is what their slots give
pub record ReadsTexts (s : TrimSaid) (old new : Outside) : Type 0 where
  pub reads : ReadsFiles old new
  pub formula : GivesFile 0 s.formula old new
  pub proof : 2 ≤ new.begun → GivesFile 1 s.proof old new

-- what they come to was decided, and then written to another outside
pub record TrimsBetween (lim : LimitValues) (s : TrimSaid) (from_old from_new old new : Outside) (o : Outcome) (k : Counts) : Type 0 where
  pub decision : Decision
  pub decided : (formula proof : Contents) → Agrees (from_new.slot 0) formula → Agrees (from_new.slot 1) proof → IsDecided lim s formula proof decision from_new.begun
  pub writes : Writes s decision old new o
  pub counts : AreCounts decision k
  pub cause : HasDecidedCause from_old from_new decision

-- or memory ran out, and nothing was written
abbrev pub FindsBetween : LimitValues → TrimSaid → Outside → Outside → Outside → Outside → Outcome → Counts → Type 0
FindsBetween lim s from_old from_new old new o k = ReadsTexts s from_old from_new × (((o ≡ outcome.NoMemory) × (new ≡ old)) ⊎ TrimsBetween lim s from_old from_new old new o k)
