-- What writing a file leaves.
use Rattle.std.specs.Prelude.{ℕ, ◌+◌, ◌≤◌, ◌≡◌, ◌≢◌, ◌⊎◌, true, List, ◌++◌, Some}
use Rattle.sr_desk.specs.Outside.{Outside, SlotState, Rose, SameElsewhere}

-- the next slot was begun to write the file of this name, or tried to; no other slot changed, and no other file
pub record OnlyWritesNext (name : List ℕ) (old new : Outside) : Type 0 where
  pub begun : new.begun ≡ old.begun + 1
  pub named : (new.slot old.begun).writes_to ≡ Some name
  pub elsewhere : SameElsewhere old.begun old new
  pub later : (old.slot old.begun).faults ≤ (new.slot old.begun).faults
  pub file : (other : List ℕ) → other ≢ name → new.file other ≡ old.file other

-- these bytes were sent to the file of this name, and it was finished
pub record IsWritten (name bytes : List ℕ) (old new : Outside) : Type 0 where
  pub only : OnlyWritesNext name old new
  pub sent : (new.slot old.begun).sent ≡ bytes
  pub finished : (new.slot old.begun).finished ≡ true

-- the slot couldn't be begun, or a prefix of the bytes was sent
abbrev pub IsCut : List ℕ → SlotState → SlotState → List ℕ → Type 0
IsCut name old new bytes = (new ≡ record old { writes_to = Some name; faults = new.faults })
    ⊎ ((rest : List ℕ) × (bytes ≡ new.sent ++ rest))

-- a call on the file failed: its count rose
pub record IsCutOff (name bytes : List ℕ) (old new : Outside) : Type 0 where
  pub only : OnlyWritesNext name old new
  pub cut : IsCut name (old.slot old.begun) (new.slot old.begun) bytes
  pub rose : Rose (old.slot old.begun).faults (new.slot old.begun).faults
