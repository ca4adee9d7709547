-- What each call does to its slot.
use Rattle.std.specs.Prelude.{◌≡◌, ◌≢◌, ℕ, ◌+◌, ◌≤◌, ◌<◌, ◌==◌, ◌&&◌, nat_lt, true, false, List, [], ◌++◌, length, take, Option, Some, None, Result, Ok, Err, IfSome, OnOk, OnErr, IfOk, if◌then◌else◌}
use Rattle.sr_base.specs.Contents as contents
use Rattle.sr_base.specs.Contents.{Ending}
use Rattle.sr_desk.specs.Outside.{Outside, SlotState, SameElsewhere, StaysKnown}
use Rattle.sr_desk.specs.declared.slot.Slot.{Slot}

-- how a read of n bytes into a buffer ended
abbrev pub ending_after : ℕ → List ℕ → Option Ending
ending_after n buf = if n == 0 && nat_lt 0 (length buf) then Some contents.ended else None

-- what is left loses the first n bytes of the buffer, where it is known; where none are moved into a buffer with room, nothing is left
pub record Moves (old new : Option (List ℕ)) (n : ℕ) (buf : List ℕ) : Type 0 where
  pub moved : (left : List ℕ) → old ≡ Some left → (rest : List ℕ) × (left ≡ take n buf ++ rest) × (new ≡ Some rest)
  pub none : (left : List ℕ) → new ≡ Some left → 0 < length buf → n ≡ 0 → left ≡ []

-- a read gave the first n bytes of the buffer
pub record Hands (old new : SlotState) (n : ℕ) (buf : List ℕ) : Type 0 where
  pub given : new.given ≡ old.given ++ take n buf
  pub ending : new.ending ≡ ending_after n buf
  pub left : Moves old.left new.left n buf

-- a read failed, and gave nothing
pub record HandsNothing (old new : SlotState) : Type 0 where
  pub given : new.given ≡ old.given
  pub ending : new.ending ≡ Some contents.failed
  pub left : StaysKnown old.left new.left

abbrev pub ReadHands : {E : Type 0} → SlotState → SlotState → Result ℕ E → List ℕ → Type 0
ReadHands old new (Ok n) buf = Hands old new n buf
ReadHands old new (Err e) buf = HandsNothing old new

-- known bytes grow by these
abbrev pub Grows : Option (List ℕ) → Option (List ℕ) → List ℕ → Type 0
Grows old new more = (bytes : List ℕ) → old ≡ Some bytes → new ≡ Some (bytes ++ more)

-- these bytes were sent, and what is written grew by them, where it is known
pub record Sends (old new : SlotState) (bytes : List ℕ) : Type 0 where
  pub sent : new.sent ≡ old.sent ++ bytes
  pub written : Grows old.written new.written bytes

-- a prefix of these bytes was sent
abbrev pub SendsPrefix : SlotState → SlotState → List ℕ → Type 0
SendsPrefix old new bytes = (front : List ℕ) × ((rest : List ℕ) × (bytes ≡ front ++ rest) × Sends old new front)

-- a write sent the first n bytes, and at least one of a piece that isn't empty
pub record Appends (old new : SlotState) (n : ℕ) (piece : List ℕ) : Type 0 where
  pub within : n ≤ length piece
  pub some : 0 < length piece → 0 < n
  pub sends : Sends old new (take n piece)

abbrev pub WriteAppends : {E : Type 0} → SlotState → SlotState → Result ℕ E → List ℕ → Type 0
WriteAppends old new (Ok n) piece = Appends old new n piece
WriteAppends old new (Err e) piece = Sends old new []

-- the slot reads the bytes of the file of this name from their start; else nothing changed but that its reading failed, the name that
-- it tried to read, and its count of faults
abbrev pub HandsOutReading : {E : Type 0} → SlotState → SlotState → List ℕ → Option (List ℕ) → Result Slot E → Type 0
HandsOutReading old new name file (Ok s) =
    (new ≡ record old { reads_from = Some name; reads = true; given = []; ending = None; left = new.left; faults = new.faults })
    × StaysKnown file new.left
HandsOutReading old new name file (Err e) =
    new ≡ record old { reads_from = Some name; given = []; ending = Some contents.failed; faults = new.faults }

-- the slot writes the file of this name, and nothing was written; else nothing changed but the name that it tried to write, and its
-- count of faults
abbrev pub HandsOutWriting : {E : Type 0} → SlotState → SlotState → List ℕ → Result Slot E → Type 0
HandsOutWriting old new name (Ok s) =
    (new ≡ record old { writes_to = Some name; writes = true; sent = []; written = new.written; finished = false; faults = new.faults })
    × IfSome new.written (λ bytes. bytes ≡ [])
HandsOutWriting old new name (Err e) = new ≡ record old { writes_to = Some name; faults = new.faults }

-- nothing changed but that the slot is finished, where that is the answer, and its count of faults, which has not fallen
pub record Finishes {E : Type 0} (n : ℕ) (old new : Outside) (result : Result (Unit {0}) E) : Type 0 where
  pub begun : new.begun ≡ old.begun
  pub file : new.file ≡ old.file
  pub elsewhere : SameElsewhere n old new
  pub later : (old.slot n).faults ≤ (new.slot n).faults
  pub slot : new.slot n ≡ record (old.slot n) { written = (new.slot n).written; finished = (new.slot n).finished; faults = (new.slot n).faults }
  pub written : StaysKnown (old.slot n).written (new.slot n).written
  pub finished : OnOk result ((new.slot n).finished ≡ true)
  pub failed : OnErr result ((new.slot n).finished ≡ (old.slot n).finished)

-- the next slot was begun for reading, or failed to be
pub record BeginsRead {E : Type 0} (old new : Outside) (name : List ℕ) (result : Result Slot E) : Type 0 where
  pub begun : new.begun ≡ old.begun + 1
  pub file : new.file ≡ old.file
  pub elsewhere : SameElsewhere old.begun old new
  pub later : (old.slot old.begun).faults ≤ (new.slot old.begun).faults
  pub number : IfOk result (λ s. s.number ≡ old.begun)
  pub slot : HandsOutReading (old.slot old.begun) (new.slot old.begun) name (old.file name) result

-- the next slot was begun for writing, or failed to be; no file changed but that of the name
pub record BeginsWrite {E : Type 0} (old new : Outside) (name : List ℕ) (result : Result Slot E) : Type 0 where
  pub begun : new.begun ≡ old.begun + 1
  pub file : (other : List ℕ) → other ≢ name → new.file other ≡ old.file other
  pub elsewhere : SameElsewhere old.begun old new
  pub later : (old.slot old.begun).faults ≤ (new.slot old.begun).faults
  pub number : IfOk result (λ s. s.number ≡ old.begun)
  pub slot : HandsOutWriting (old.slot old.begun) (new.slot old.begun) name result
