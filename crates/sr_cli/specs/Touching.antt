-- Which files a run reads, and which it writes.
use Rattle.std.specs.Prelude.{◌≡◌, ◌≢◌, ◌⊎◌, ℕ, zero, suc, ◌+◌, ◌≤◌, ◌<◌, List, [], ◌∷◌, Option, Some, None}
use Rattle.sr_desk.specs.Outside.{Outside, SlotState}
use Rattle.sr_files.specs.Files.{GivesFile}
use Rattle.sr_trim.specs.Said.{TrimSaid}
use Rattle.sr_cli.specs.Demo.{DemoSaid}
use Rattle.sr_cli.specs.Words.{ReadOnly, refused, helps, checks, Asked, only_reads, trims, demos}

-- the name is one of those that are given
abbrev pub IsGiven : List ℕ → List (Option (List ℕ)) → Type 0
IsGiven name [] = ⊥
IsGiven name (n ∷ ns) = (n ≡ Some name) ⊎ IsGiven name ns

-- the slot was begun to write one of these files, or tried to
abbrev pub WritesOneOf : List (Option (List ℕ)) → SlotState → Type 0
WritesOneOf names s = (name : List ℕ) × ((s.writes_to ≡ Some name) × IsGiven name names)

-- no file changed but these
abbrev pub OnlyChanges : List (Option (List ℕ)) → Outside → Outside → Type 0
OnlyChanges names old new = (other : List ℕ) → ¬ IsGiven other names → new.file other ≡ old.file other

-- the slots that were begun read the files that were named
abbrev pub ReadsNamed : ReadOnly → Outside → Type 0
ReadsNamed (refused kind t flaws) new = Unit {0}
ReadsNamed (helps t) new = Unit {0}
ReadsNamed (checks s) new = (1 ≤ new.begun → (new.slot 0).reads_from ≡ Some s.formula) × (2 ≤ new.begun → (new.slot 1).reads_from ≡ Some s.proof)

-- known files are read as they are
abbrev pub GivesReadOnly : ReadOnly → Outside → Outside → Type 0
GivesReadOnly (refused kind t flaws) old new = Unit {0}
GivesReadOnly (helps t) old new = Unit {0}
GivesReadOnly (checks s) old new = (1 ≤ new.begun → GivesFile 0 s.formula old new) × (2 ≤ new.begun → GivesFile 1 s.proof old new)

-- how many files are begun at most
abbrev pub most_begun : ReadOnly → ℕ
most_begun (refused kind t flaws) = 0
most_begun (helps t) = 0
most_begun (checks s) = 2

-- so many files at most were begun, all to read those that were named; the other slots but standard output and all files are as they
-- were
pub record OnlyReadsFiles (a : ReadOnly) (old new : Outside) : Type 0 where
  pub begun : new.begun ≤ most_begun a
  pub named : ReadsNamed a new
  pub file : new.file ≡ old.file
  pub unread : (k : ℕ) → new.begun ≤ k → k ≢ 8 → new.slot k ≡ old.slot k
  pub writes : (k : ℕ) → k < 8 → (new.slot k).writes ≡ (old.slot k).writes

-- the files of a run that writes some: the formula, where it was read
abbrev pub GivesFiles : Asked → Outside → Outside → Type 0
GivesFiles (only_reads a) old new = GivesReadOnly a old new
GivesFiles (trims s) old new = 1 ≤ new.begun → GivesFile 0 s.formula old new
GivesFiles (demos s) old new = Unit {0}

-- the file of this name was read by the slot, which wasn't begun for writing
pub record ReadsFile (n : ℕ) (name : List ℕ) (old new : Outside) : Type 0 where
  pub gives : GivesFile n name old new
  pub writes : (new.slot n).writes ≡ (old.slot n).writes

-- the files that `trim` is asked to write
abbrev pub trim_outputs : TrimSaid → List (Option (List ℕ))
trim_outputs s = s.lsr ∷ s.core ∷ []

-- the first slot reads the formula; the second one reads the proof, or like all after it writes what is asked for
abbrev pub IsTrimSlot : TrimSaid → Outside → Outside → ℕ → Type 0
IsTrimSlot s old new zero = ReadsFile 0 s.formula old new
IsTrimSlot s old new (suc k) = ((k ≡ 0) × ReadsFile 1 s.proof old new) ⊎ WritesOneOf (trim_outputs s) (new.slot (suc k))

-- four files at most were begun, no file is written but those that are named for it, and no other changed; the slots that weren't begun
-- but standard output are as they were
pub record OnlyTrims (s : TrimSaid) (old new : Outside) : Type 0 where
  pub begun : new.begun ≤ 4
  pub slots : (k : ℕ) → k < new.begun → IsTrimSlot s old new k
  pub file : OnlyChanges (trim_outputs s) old new
  pub unread : (k : ℕ) → new.begun ≤ k → k ≢ 8 → new.slot k ≡ old.slot k

abbrev pub one_if_named : Option (List ℕ) → ℕ
one_if_named None = 0
one_if_named (Some name) = 1

abbrev pub files_named : DemoSaid → ℕ
files_named s = one_if_named s.formula + one_if_named s.proof + one_if_named s.lsr + one_if_named s.core

-- the files that `demo` is asked to write
abbrev pub demo_outputs : DemoSaid → List (Option (List ℕ))
demo_outputs s = s.lsr ∷ s.core ∷ s.formula ∷ s.proof ∷ []

-- no more files were begun than are named, each to write one of them, and no other file changed; the slots that weren't begun but
-- standard output are as they were
pub record OnlyDemos (s : DemoSaid) (old new : Outside) : Type 0 where
  pub begun : new.begun ≤ files_named s
  pub slots : (k : ℕ) → k < new.begun → WritesOneOf (demo_outputs s) (new.slot k)
  pub file : OnlyChanges (demo_outputs s) old new
  pub unread : (k : ℕ) → new.begun ≤ k → k ≢ 8 → new.slot k ≡ old.slot k

abbrev pub OnlyTouches : Asked → Outside → Outside → Type 0
OnlyTouches (only_reads a) old new = OnlyReadsFiles a old new
OnlyTouches (trims s) old new = OnlyTrims s old new
OnlyTouches (demos s) old new = OnlyDemos s old new
