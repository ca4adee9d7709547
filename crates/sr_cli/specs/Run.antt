-- What a run does and answers, from its words to what it leaves.
use Rattle.std.specs.Prelude.{cond, ◌≡◌, ◌⊎◌, ℕ, ◌-◌, ◌≤◌, ◌<◌, ◌&&◌, Bool, true, false, List, ◌++◌, Option, Some, None, if◌then◌else◌}
use Rattle.sr_base.specs.Limits.{LimitValues}
use Rattle.sr_base.specs.Contents.{Contents, whole}
use Rattle.sr_base.specs.declared.names.Which.TheVariants as which
use Rattle.sr_model.specs.Assignment.{Unsat}
use Rattle.sr_model.specs.Tokens.{Tokens}
use Rattle.sr_model.specs.TextTokens.{spelled}
use Rattle.sr_model.specs.Dimacs.{Formula}
use Rattle.sr_model.specs.Formulas.{SpellsFormula}
use Rattle.sr_desk.specs.Outside.{Outside, Agrees, Rose, SameElsewhere}
use Rattle.sr_desk.specs.Calls.{Sends, SendsPrefix}
use Rattle.sr_emit.specs.Status.{is_verified}
use Rattle.sr_emit.specs.FileNames.{Names}
use Rattle.sr_emit.specs.Report.{report, verified_line}
use Rattle.sr_emit.specs.declared.report.Command.{Command}
use Rattle.sr_emit.specs.declared.report.Command.TheVariants as command
use Rattle.sr_emit.specs.declared.outcome.Outcome.{Outcome}
use Rattle.sr_emit.specs.declared.outcome.Outcome.TheVariants as outcome
use Rattle.sr_emit.specs.declared.counts.Counts.{Counts}
use Rattle.sr_emit.specs.declared.topic.Flaw.{Flaw}
use Rattle.sr_trim.specs.Said.{TrimSaid}
use Rattle.sr_trim.specs.Finding as trim
use Rattle.sr_cli.specs.Demo.{DemoSaid, formula_text, FindsDemo}
use Rattle.sr_cli.specs.Words.{ReadOnly, refused, helps, checks, Asked, only_reads, trims, demos, IsOneOf}
use Rattle.sr_files.specs.Files.{HasReadCause}
use Rattle.sr_cli.specs.Check.{IsFirst}
use Rattle.sr_cli.specs.Touching.{ReadsNamed}

-- standard output has the slot 8; nothing else changed
pub record OnlyPrints (old new : Outside) : Type 0 where
  pub begun : new.begun ≡ old.begun
  pub file : new.file ≡ old.file
  pub elsewhere : SameElsewhere 8 old new
  pub later : (old.slot 8).faults ≤ (new.slot 8).faults

-- the bytes were sent to standard output, and it was finished
pub record IsPrinted (bytes : List ℕ) (old new : Outside) : Type 0 where
  pub sends : Sends (old.slot 8) (new.slot 8) bytes
  pub finished : (new.slot 8).finished ≡ true

-- a prefix of them was sent, and the count of its faults rose
pub record IsCutShort (bytes : List ℕ) (old new : Outside) : Type 0 where
  pub sends : SendsPrefix (old.slot 8) (new.slot 8) bytes
  pub rose : Rose (old.slot 8).faults (new.slot 8).faults

-- the report of what was found is printed, or printing failed
abbrev pub Shows : List ℕ → Outside → Outside → Outcome → Outcome → Type 0
Shows bytes old new found answered = ((answered ≡ found) × IsPrinted bytes old new)
    ⊎ ((answered ≡ outcome.SinkFault which.Report) × IsCutShort bytes old new)

-- or memory ran out, and nothing is printed
abbrev pub Reports : List ℕ → Outside → Outside → Outcome → Outcome → Type 0
Reports bytes old new found answered = ((answered ≡ outcome.NoMemory) × (new.slot 8 ≡ old.slot 8)) ⊎ Shows bytes old new found answered

-- the event that the words and two files of such contents have, with the counts, and with as many files as are begun for it
abbrev pub IsEvent : LimitValues → ReadOnly → Contents → Contents → Outcome → Counts → ℕ → Type 0
IsEvent lim (refused kind t flaws) formula proof o k begun = (o ≡ outcome.Usage kind) × (begun ≡ 0)
IsEvent lim (helps t) formula proof o k begun = (o ≡ outcome.Helped t) × (begun ≡ 0)
IsEvent lim (checks s) formula proof o k begun = IsFirst lim s formula proof o k begun

-- memory ran out, or this is the event of all files with which what the slots 0 and 1 gave agrees
abbrev pub Finds : LimitValues → ReadOnly → Outside → Outcome → Counts → Type 0
Finds lim a new o k = (o ≡ outcome.NoMemory)
    ⊎ ((formula proof : Contents) → Agrees (new.slot 0) formula → Agrees (new.slot 1) proof → IsEvent lim a formula proof o k new.begun)

abbrev pub counts_asked : ReadOnly → Counts → Option Counts
counts_asked (refused kind t flaws) k = None
counts_asked (helps t) k = None
counts_asked (checks s) k = if s.stats then Some k else None

-- what the report is told: of refused words one of their flaws
abbrev pub IsCommandOf : ReadOnly → Command → Type 0
IsCommandOf (refused kind t flaws) c = (f : Flaw) × ((c ≡ command.Refused t f) × IsOneOf f flaws)
IsCommandOf (helps t) c = c ≡ command.Help
IsCommandOf (checks s) c = c ≡ command.Check

-- the names that the report may name
abbrev pub no_names : Names
no_names = record { formula = None; proof = None; lsr = None; core = None }

abbrev pub names_asked : ReadOnly → Names
names_asked (refused kind t flaws) = no_names
names_asked (helps t) = no_names
names_asked (checks s) = record { formula = Some s.formula; proof = Some s.proof; lsr = None; core = None }

abbrev pub trim_names : TrimSaid → Names
trim_names s = record { formula = Some s.formula; proof = Some s.proof; lsr = s.lsr; core = s.core }

-- the formula and the proof of `demo` are made
abbrev pub demo_names : DemoSaid → Names
demo_names s = record { formula = None; proof = None; lsr = s.lsr; core = s.core }

-- something was found of the files that were named, and reported; where that is a failed read, its count rose. Where memory ran out
-- nothing is printed
pub record RunsReadOnly (lim : LimitValues) (a : ReadOnly) (old new : Outside) (answered : Outcome) : Type 0 where
  pub found : Outcome
  pub counts : Counts
  pub finds : Finds lim a new found counts
  pub named : ReadsNamed a new
  pub cause : HasReadCause old new found
  pub given : Command
  pub is_given : (found ≡ outcome.NoMemory) ⊎ IsCommandOf a given
  pub reports : Reports (report given (names_asked a) (counts_asked a counts) found) old new found answered
  pub quiet : found ≡ outcome.NoMemory → (answered ≡ outcome.NoMemory) × (new.slot 8 ≡ old.slot 8)

-- a fault of a file that is written, and out of memory, aren't reported
abbrev pub is_unreported : Outcome → Bool
is_unreported (outcome.SinkFault w) = true
is_unreported outcome.NoMemory = true
is_unreported o = false

abbrev pub ReportsTrim : List ℕ → Outside → Outside → Outcome → Outcome → Type 0
ReportsTrim bytes mid new found answered = cond (is_unreported found) ((answered ≡ found) × (new ≡ mid))
    (OnlyPrints mid new × Reports bytes mid new found answered)

-- the counts of a verified run are reported, where they are asked for
abbrev pub counts_shown : Bool → Outcome → Counts → Option Counts
counts_shown is_asked o k = if is_asked && is_verified o then Some k else None

-- up to `mid` the files were read and written, and then what was found is reported
pub record RunsTrim (lim : LimitValues) (s : TrimSaid) (old new : Outside) (answered : Outcome) : Type 0 where
  pub found : Outcome
  pub counts : Counts
  pub mid : Outside
  pub finds : trim.Finds lim s old mid found counts
  pub reports : ReportsTrim (report command.Trim (trim_names s) (counts_shown s.stats found counts) found) mid new found answered

-- what was found over the texts that are made is written and reported
pub record RunsDemo (lim : LimitValues) (s : DemoSaid) (old new : Outside) (answered : Outcome) : Type 0 where
  pub found : Outcome
  pub counts : Counts
  pub mid : Outside
  pub finds : FindsDemo lim s old mid found counts
  pub reports : ReportsTrim (report (command.Demo s.holes s.stats) (demo_names s) (counts_shown true found counts) found)
      mid new found answered

-- what a run does that is asked for this
abbrev pub Runs : LimitValues → Asked → Outside → Outside → Outcome → Type 0
Runs lim (only_reads a) old new answered = RunsReadOnly lim a old new answered
Runs lim (trims s) old new answered = RunsTrim lim s old new answered
Runs lim (demos s) old new answered = RunsDemo lim s old new answered

-- the contents spell a formula that no assignment satisfies
abbrev pub IsRefutedIn : LimitValues → Contents → Type 0
IsRefutedIn lim c = (f : Formula) × ((rest : Tokens) × SpellsFormula lim (spelled lim.bytes c) f rest × Unsat f.clauses)

-- the formula's slot reads the file of this name, and what it gave does, whatever the file has beyond
pub record IsRefutedFile (lim : LimitValues) (name : List ℕ) (new : Outside) : Type 0 where
  pub named : (new.slot 0).reads_from ≡ Some name
  pub refuted : (c : Contents) → Agrees (new.slot 0) c → IsRefutedIn lim c

-- words that are refused or ask for help have no formula
abbrev pub IsRefutedRead : LimitValues → ReadOnly → Outside → Type 0
IsRefutedRead lim (refused kind t flaws) new = ⊥
IsRefutedRead lim (helps t) new = ⊥
IsRefutedRead lim (checks s) new = IsRefutedFile lim s.formula new

-- the formula of the run is refuted: that of the file that was named for it, or the one that is made
abbrev pub IsRefuted : LimitValues → Asked → Outside → Type 0
IsRefuted lim (only_reads a) new = IsRefutedRead lim a new
IsRefuted lim (trims s) new = IsRefutedFile lim s.formula new
IsRefuted lim (demos s) new = IsRefutedIn lim (whole (formula_text s.holes))

-- what is answered as verified is refuted
abbrev pub IsSound : LimitValues → Asked → Outside → Outcome → Type 0
IsSound lim a new o = is_verified o ≡ true → IsRefuted lim a new

-- where standard output grew by bytes that end with that line, the formula is refuted
abbrev pub SaysSo : LimitValues → Asked → Outside → Outside → Type 0
SaysSo lim a old new = (front : List ℕ) → (new.slot 8).sent ≡ (old.slot 8).sent ++ (front ++ verified_line) → IsRefuted lim a new

-- a fault of the outside comes only where the count of its slot rose: the formula has the first slot, the proof the second one, a
-- file that is written the last one that was begun
abbrev pub HasFilesCause : Outside → Outside → Outcome → Type 0
HasFilesCause old new (outcome.SinkFault which.Report) = Rose (old.slot 8).faults (new.slot 8).faults
HasFilesCause old new (outcome.SinkFault which.Lsr) = Rose (old.slot (new.begun - 1)).faults (new.slot (new.begun - 1)).faults
HasFilesCause old new (outcome.SinkFault which.Core) = Rose (old.slot (new.begun - 1)).faults (new.slot (new.begun - 1)).faults
HasFilesCause old new o = HasReadCause old new o

-- where no file is read, each of them is one of writing
abbrev pub HasDemoCause : Outside → Outside → Outcome → Type 0
HasDemoCause old new (outcome.SinkFault which.Report) = Rose (old.slot 8).faults (new.slot 8).faults
HasDemoCause old new (outcome.SinkFault w) = Rose (old.slot (new.begun - 1)).faults (new.slot (new.begun - 1)).faults
HasDemoCause old new (outcome.SourceFault w) = ⊥
HasDemoCause old new o = Unit {0}

abbrev pub HasRunCause : Asked → Outside → Outside → Outcome → Type 0
HasRunCause (only_reads a) old new o = HasFilesCause old new o
HasRunCause (trims s) old new o = HasFilesCause old new o
HasRunCause (demos s) old new o = HasDemoCause old new o

-- no file was begun for writing, and none changed
pub record WritesNoFile (old new : Outside) : Type 0 where
  pub file : new.file ≡ old.file
  pub writes : (k : ℕ) → k < 8 → (new.slot k).writes ≡ (old.slot k).writes

-- so it is where memory runs out; and where no file is read, none was begun at all
abbrev pub StaysUnwritten : Asked → Outside → Outside → Outcome → Type 0
StaysUnwritten (only_reads a) old new o = o ≡ outcome.NoMemory → WritesNoFile old new
StaysUnwritten (trims s) old new o = o ≡ outcome.NoMemory → WritesNoFile old new
StaysUnwritten (demos s) old new o = o ≡ outcome.NoMemory → WritesNoFile old new × (new.begun ≡ old.begun)
