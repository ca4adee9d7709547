-- What a reader's calls give.
use Rattle.std.specs.Prelude.{◌≡◌, ◌≢◌, ℕ, ◌+◌, ◌<◌, ◌≤◌, Bool, true, false, IsTrue, List, [], ◌∷◌, length, drop, Option, Some, None, Result, Ok, Err, if◌then◌else◌}
use Rattle.sr_base.specs.Contents as contents
use Rattle.sr_base.specs.Contents.{Contents}
use Rattle.sr_desk.specs.Outside.{Outside, Agrees, OnlyReads, Rose}
use Rattle.sr_desk.specs.Reader.{Reader}
use Rattle.sr_desk.specs.declared.reader.ReadError.{ReadError}
use Rattle.sr_desk.specs.declared.reader.ReadError.TheVariants.{Fault, Limit}

-- the reader takes what its slot gives from the start of the file on: what was given and isn't yet taken is ahead of it
pub record Stands (r : Reader) (o : Outside) : Type 0 where
  pub reads : IsTrue (o.slot r.slot).reads
  pub ending : (o.slot r.slot).ending ≡ (if r.ended then Some contents.ended else None)
  pub taken : r.taken ≤ length (o.slot r.slot).given
  pub ahead : drop r.taken (o.slot r.slot).given ≡ r.ahead

-- the bytes that the reader has still to give of a file of such contents
abbrev pub remaining : Reader → Contents → List ℕ
remaining r c = drop r.taken c.bytes

-- this holds of all contents with which what the reader's slot has given agrees
abbrev pub ForContents : Reader → Outside → (Contents → Type 0) → Type 0
ForContents r o P = (c : Contents) → Agrees (o.slot r.slot) c → P c

-- the reader is the same but for what it took
pub record IsSameReader (old new : Reader) : Type 0 where
  pub slot : new.slot ≡ old.slot
  pub limit : new.limit ≡ old.limit
  pub later : old.taken ≤ new.taken

-- what a call that reads does, besides what it gives; it may answer that a read failed
pub record Reads (old new : Reader) (before after : Outside) (is_fault : Bool) : Type 0 where
  pub same : IsSameReader old new
  pub only : OnlyReads old.slot before after
  -- a file whose contents agree with all that was given agreed before too
  pub agrees : (c : Contents) → Agrees (after.slot old.slot) c → Agrees (before.slot old.slot) c
  -- the reader may be used again, unless a read failed
  pub stands : is_fault ≡ false → Stands new after
  -- a failed read is told by the slot, and its count rose
  pub ending : is_fault ≡ true → (after.slot old.slot).ending ≡ Some contents.failed
  pub cause : is_fault ≡ true → Rose (before.slot old.slot).faults (after.slot old.slot).faults

abbrev pub is_read_fault : {T : Type 0} → Result T ReadError → Bool
is_read_fault (Err Fault) = true
is_read_fault _ = false

-- a byte is taken, the first of those that remain
pub record TakesByte (old new : Reader) (after : Outside) (b : ℕ) : Type 0 where
  pub room : old.taken < old.limit
  pub same : new ≡ record old { taken = old.taken + 1; last = Some b; ended = new.ended; ahead = new.ahead }
  pub bytes : ForContents new after (λ c. remaining old c ≡ b ∷ remaining new c)

-- the end of the file is met, and nothing remains
pub record MeetsEnd (old new : Reader) (after : Outside) : Type 0 where
  pub same : new ≡ record old { ended = true; ahead = [] }
  pub bytes : ForContents new after (λ c. (remaining old c ≡ []) × (c.ending ≡ contents.ended))

-- the limit's bytes were taken, and another remains
pub record MeetsLimit (old new : Reader) (after : Outside) : Type 0 where
  pub taken : old.taken ≡ old.limit
  pub same : new ≡ record old { ended = new.ended; ahead = new.ahead }
  pub bytes : ForContents new after (λ c. remaining old c ≢ [])

-- a read failed where the next byte was to come
pub record MeetsFault (old new : Reader) (after : Outside) : Type 0 where
  pub taken : new.taken ≡ old.taken
  pub bytes : ForContents new after (λ c. (remaining old c ≡ []) × (c.ending ≡ contents.failed))

abbrev pub Next : Reader → Reader → Outside → Result (Option ℕ) ReadError → Type 0
Next old new after (Ok (Some b)) = TakesByte old new after b
Next old new after (Ok None) = MeetsEnd old new after
Next old new after (Err Limit) = MeetsLimit old new after
Next old new after (Err Fault) = MeetsFault old new after
