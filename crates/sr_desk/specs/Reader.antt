-- What a contract sees of a reader.
use Rattle.std.specs.Prelude.{◌≡◌, ◌≢◌, ℕ, ◌+◌, ◌-◌, ◌^◌, ◌≤◌, ◌<◌, ◌⊎◌, Bool, true, false, List, [], ◌∷◌, length, take, drop, Option, Some, None, Result, Ok, Err}
use Rattle.sr_desk.specs.declared.reader.TheConstants.{CAPACITY}
use Rattle.sr_desk.specs.declared.reader.ByteReader.TheInside.{Inside}
use Rattle.sr_desk.specs.declared.reader.ReadError.{ReadError}
use Rattle.sr_desk.specs.declared.reader.ReadError.TheVariants.{Fault, Limit}

pub record Reader : Type 0 where
  pub slot : ℕ
  -- the most bytes that may be taken
  pub limit : ℕ
  pub taken : ℕ
  -- the byte that was taken last
  pub last : Option ℕ
  -- the end was met
  pub ended : Bool
  -- the bytes that were read from the slot and not yet taken
  pub ahead : List ℕ

-- what comes next is known without a read: a byte is ahead, or the end was met
abbrev pub IsAtHand : Reader → Type 0
IsAtHand r = (r.ahead ≢ []) ⊎ (r.ended ≡ true)

-- the last of some bytes, or what was last before them
abbrev pub last_after : Option ℕ → List ℕ → Option ℕ
last_after last [] = last
last_after last (b ∷ bs) = last_after (Some b) bs

-- the bytes that may be taken without another read
abbrev pub buffered : Reader → List ℕ
buffered r = take (r.limit - r.taken) r.ahead

-- the reader after it took some of those bytes
abbrev pub skipped : Reader → ℕ → Reader
skipped r count = record r {
  taken = r.taken + count;
  last = last_after r.last (take count r.ahead);
  ahead = drop count r.ahead;
}

-- the buffer holds the bytes that come after the first `before`
abbrev pub reader_of : Inside → Reader
reader_of r = record {
  slot = r.slot.number;
  limit = r.limit;
  taken = r.before + r.at;
  last = last_after r.previous (take r.at r.buffer.items);
  ended = r.ended;
  ahead = drop r.at (take r.held r.buffer.items);
}

-- bytes of the buffer may be taken up to `end`, and were read up to `held`, which is further only at the limit
pub record IsReader (r : Inside) : Type 0 where
  pub at : r.at ≤ r.end
  pub end : r.end ≤ r.held
  pub held : r.held ≤ length r.buffer.items
  pub size : length r.buffer.items ≡ CAPACITY
  pub limit : r.before + r.end ≤ r.limit
  pub wide : r.limit < 2 ^ 64
  pub past : r.end < r.held → r.before + r.end ≡ r.limit
  pub ended : r.ended ≡ true → r.at ≡ r.held

-- the buffer was filled: bytes are ahead, or the end was met
pub record IsFilled (old new : Reader) : Type 0 where
  pub same : new ≡ record old { ended = new.ended; ahead = new.ahead }
  pub ready : new.ended ≡ false → new.ahead ≢ []

-- what the buffer gives
abbrev pub Takes : Reader → Reader → Result (Option ℕ) ReadError → Type 0
Takes old new (Ok (Some b)) = (old.taken < old.limit) × (old.ahead ≡ b ∷ new.ahead)
    × (new ≡ record old { taken = old.taken + 1; last = Some b; ahead = new.ahead })
Takes old new (Ok None) = (old.ahead ≡ []) × (new ≡ old)
Takes old new (Err Limit) = (old.ahead ≢ []) × (old.taken ≡ old.limit) × (new ≡ old)
Takes old new (Err Fault) = ⊥
