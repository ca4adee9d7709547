-- Where bytes are put, one piece after another.
use Rattle.std.specs.Prelude.{ℕ, ◌≡◌, ◌+◌, Bool, true, false, cond, List, ◌++◌, length, Result, Ok, Err}
use Rattle.sr_desk.specs.Outside.{Outside, Rose, OnlyWrites}
use Rattle.sr_desk.specs.Calls.{Sends, SendsPrefix}
use Rattle.sr_placing.specs.Counting.{counted}

-- a file that is written: its slot, what was put and isn't sent yet, and whether a call has failed
pub record FileState : Type 0 where
  pub slot : ℕ
  pub buffered : List ℕ
  pub failed : Bool

-- these bytes are buffered too, unless a call has failed
abbrev pub kept : FileState → List ℕ → FileState
kept s bytes = cond s.failed s (record s { buffered = s.buffered ++ bytes })

-- these bytes were put: a part of what was buffered and they was sent, and the rest is buffered; or a call failed, and a
-- prefix was sent. Once one has failed, nothing is sent.
pub record FilePuts (s : FileState) (a : Outside) (t : FileState) (b : Outside) (bytes : List ℕ) : Type 0 where
  pub same : t.slot ≡ s.slot
  pub only : OnlyWrites s.slot a b
  pub goes_on : s.failed ≡ false → t.failed ≡ false → (front : List ℕ) × Sends (a.slot s.slot) (b.slot s.slot) front × (s.buffered ++ bytes ≡ front ++ t.buffered)
  pub fails : s.failed ≡ false → t.failed ≡ true → SendsPrefix (a.slot s.slot) (b.slot s.slot) (s.buffered ++ bytes) × Rose (a.slot s.slot).faults (b.slot s.slot).faults
  pub stays : s.failed ≡ true → (t.failed ≡ true) × (b ≡ a)

-- these bytes were sent; or a call failed, and a prefix of them was
abbrev pub SendsAll : {E : Type 0} → ℕ → Outside → Outside → List ℕ → Result (Unit {0}) E → Type 0
SendsAll n a b bytes (Ok v) = Sends (a.slot n) (b.slot n) bytes
SendsAll n a b bytes (Err e) = SendsPrefix (a.slot n) (b.slot n) bytes

-- how many bytes were put; the count stays at its greatest value
abbrev pub LengthPuts : ℕ → ℕ → List ℕ → Type 0
LengthPuts old new bytes = counted new ≡ counted (old + length bytes)

-- a list of bytes, and whether memory lacked
pub record ListState : Type 0 where
  pub list : List ℕ
  pub failed : Bool

-- where memory lacks, it has lacked from then on
pub record ListPuts (s t : ListState) (bytes : List ℕ) : Type 0 where
  pub list : t.failed ≡ false → t.list ≡ s.list ++ bytes
  pub failed : s.failed ≡ true → t.failed ≡ true
