-- What a run does to the outside while it reads.
use Rattle.std.specs.Prelude.{◌≡◌, ◌≢◌, ◌⊎◌, ℕ, ◌≤◌, ◌<◌, true, false, List, [], Some, None, Result, Ok, Err}
use Rattle.sr_base.specs.Contents as contents
use Rattle.sr_base.specs.Contents.{Contents, whole}
use Rattle.sr_base.specs.Limits.{LimitValues}
use Rattle.sr_base.specs.declared.names.Which.{Which}
use Rattle.sr_base.specs.declared.names.Which.TheVariants as which
use Rattle.sr_base.specs.declared.names.InputError.{InputError}
use Rattle.sr_base.specs.declared.names.InputError.TheVariants as fault
use Rattle.sr_model.specs.Tokens.{Tokens}
use Rattle.sr_model.specs.Reading.{Read, reads}
use Rattle.sr_model.specs.TextTokens.{spelled}
use Rattle.sr_model.specs.Dimacs.{Formula, formula_at}
use Rattle.sr_desk.specs.Outside.{Outside, SlotState, Agrees, StaysKnown, NoneLeftAtEnd, Rose, source}
use Rattle.sr_desk.specs.Reader.{Reader}
use Rattle.sr_scan.specs.Left.{Refuses, is_fault}
use Rattle.sr_emit.specs.declared.outcome.Outcome.{Outcome}
use Rattle.sr_emit.specs.declared.outcome.Outcome.TheVariants.{Text, Limit, SourceFault, SinkFault, NoMemory}

-- a slot was only read: what it writes to, what was written, and whether it may be written, are as they were
pub record IsOnlyRead (old new : SlotState) : Type 0 where
  pub writes : new.writes ≡ old.writes
  pub sent : new.sent ≡ old.sent
  pub written : new.written ≡ old.written
  pub finished : new.finished ≡ old.finished
  pub writes_to : new.writes_to ≡ old.writes_to

-- the slots from `old.begun` up to `count` were begun for reading, and nothing else changed
pub record ReadsSlots (count : ℕ) (old new : Outside) : Type 0 where
  pub begun : new.begun ≡ count
  pub file : new.file ≡ old.file
  pub others : (k : ℕ) → count ≤ k → new.slot k ≡ old.slot k
  pub before : (k : ℕ) → k < old.begun → new.slot k ≡ old.slot k
  pub only : (k : ℕ) → IsOnlyRead (old.slot k) (new.slot k)
  pub later : (k : ℕ) → (old.slot k).faults ≤ (new.slot k).faults

-- one or two slots were begun for reading, and nothing else changed
abbrev pub ReadsFiles : Outside → Outside → Type 0
ReadsFiles old new = ReadsSlots 1 old new ⊎ ReadsSlots 2 old new

-- a slot was begun to read the file of this name, and then only read: what is known of the file is known of the slot
pub record Opened (n : ℕ) (name : List ℕ) (old new : Outside) : Type 0 where
  pub named : (new.slot n).reads_from ≡ Some name
  pub known : StaysKnown (old.file name) (source (new.slot n))
  pub ended : NoneLeftAtEnd (new.slot n)

-- a slot was begun to read the file of this name, or tried to; where no read of it failed and the bytes that it had are known, they are
-- what it gives; and they are those of the file
pub record GivesFile (n : ℕ) (name : List ℕ) (old new : Outside) : Type 0 where
  pub named : (new.slot n).reads_from ≡ Some name
  pub known : (bytes : List ℕ) → (new.slot n).ending ≢ Some contents.failed → old.file name ≡ Some bytes → source (new.slot n) ≡ Some bytes
  pub agrees : (bytes : List ℕ) → (new.slot n).ending ≢ Some contents.failed → source (new.slot n) ≡ Some bytes → Agrees (new.slot n) (whole bytes)

-- a slot couldn't be begun
abbrev pub IsUnread : SlotState → Type 0
IsUnread s = (s.given ≡ []) × (s.ending ≡ Some contents.failed)

-- what stood at the front was read, or it is no such thing
abbrev pub ReadsFront : {A : Type 0} → Read A → Result A InputError → Type 0
ReadsFront read (Ok x) = (rest : Tokens) × (read ≡ reads x rest)
ReadsFront read (Err e) = Refuses read e

-- a reader of a slot that took nothing
abbrev pub fresh : ℕ → ℕ → Reader
fresh slot limit = record { slot = slot; limit = limit; taken = 0; last = None; ended = false; ahead = [] }

-- this is the formula that all files spell with which what the slot gave agrees, or why they spell none
abbrev pub ReadsFormula : LimitValues → SlotState → Result Formula InputError → Type 0
ReadsFormula lim s result = (c : Contents) → Agrees s c → ReadsFront (formula_at lim (spelled lim.bytes c)) result

-- a failed call on the slot that is begun next is told by its count
abbrev pub HasNextCause : {T : Type 0} → Outside → Outside → Result T InputError → Type 0
HasNextCause old new result = is_fault result ≡ true → Rose (old.slot old.begun).faults (new.slot old.begun).faults

-- the outcome of a file that isn't read
abbrev pub outcome_by : Which → InputError → Outcome
outcome_by which (fault.Text kind place) = Text which kind place
outcome_by which (fault.Limit kind) = Limit which kind
outcome_by which fault.Source = SourceFault which
outcome_by which fault.NoMemory = NoMemory

-- a failed call, or out of memory
abbrev pub IsCallFault : InputError → Type 0
IsCallFault fault.Source = Unit {0}
IsCallFault fault.NoMemory = Unit {0}
IsCallFault e = ⊥

-- the first file has the slot 0 and the second one the slot 1: a failed call on a file is told by its count
abbrev pub HasReadCause : Outside → Outside → Outcome → Type 0
HasReadCause old new (SourceFault which.Formula) = Rose (old.slot 0).faults (new.slot 0).faults × (new.begun ≡ 1)
HasReadCause old new (SourceFault which.Proof) = Rose (old.slot 1).faults (new.slot 1).faults × (new.begun ≡ 2)
HasReadCause old new (SourceFault w) = ⊥
HasReadCause old new (SinkFault w) = ⊥
HasReadCause old new o = Unit {0}
