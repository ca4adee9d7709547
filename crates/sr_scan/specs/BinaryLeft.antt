-- The binary tokens that a reader gives.
use Rattle.std.specs.Prelude.{◌≡◌, ℕ, ◌+◌, ◌-◌, ◌<◌, ◌≤◌, ◌^◌, Bool, true, false, List, [], ◌++◌, length, take, Result, Ok, Err, slice_index, ◌==◌, if◌then◌else◌}
use Rattle.sr_base.specs.Contents.{Contents, ended, failed}
use Rattle.sr_base.specs.declared.names.Form.{Form}
use Rattle.sr_base.specs.declared.names.TextKind.{TextKind}
use Rattle.sr_base.specs.declared.names.TextKind.TheVariants.{BadWord, Unended}
use Rattle.sr_base.specs.declared.names.LimitKind.TheVariants as limit
use Rattle.sr_base.specs.declared.names.InputError.{InputError}
use Rattle.sr_base.specs.declared.names.InputError.TheVariants as error
use Rattle.sr_desk.specs.Reader.{Reader}
use Rattle.sr_desk.specs.Next.{remaining}
use Rattle.sr_model.specs.declared.tokens.Word.{Word}
use Rattle.sr_model.specs.declared.tokens.Word.TheVariants as word
use Rattle.sr_model.specs.declared.tokens.Token.{Token}
use Rattle.sr_model.specs.BinaryTokens.{open_after}
use Rattle.sr_scan.specs.declared.binary.ValueError.{ValueError}
use Rattle.sr_scan.specs.declared.binary.ValueError.TheVariants.{Long, Ends, Limit, Fault}
use Rattle.sr_scan.specs.Binary.{ValueRead, value, long, ends, limited, value_at, TokenRead, reads, misspells, passes, fails, token_at}
use Rattle.sr_scan.specs.Left.{Advances, tokens_left, GivesToken, RefusesToken}
use Rattle.sr_scan.specs.Machine.{Skips}

-- the first of the tokens that are left in either form was read, and the others are left
abbrev pub GivesFront : Form → ℕ → ℕ → Reader → Reader → Contents → Result Token InputError → Type 0
GivesFront form lists o old new c (Ok t) = GivesToken (tokens_left form lists o old c) (tokens_left form lists (open_after lists o t.word) new c) (Ok t)
GivesFront form lists o old new c (Err e) = RefusesToken (tokens_left form lists o old c) e

-- so many bytes were taken
abbrev pub Counts : Reader → Reader → Contents → Type 0
Counts old new c = old.taken + length (remaining old c) ≡ new.taken + length (remaining new c)

abbrev pub GivesRead : Reader → Reader → Contents → TokenRead → Result Token InputError → Type 0
GivesRead old new c this (Ok t) = (this ≡ reads t (remaining new c)) × Counts old new c
GivesRead old new c this (Err (error.Text kind place)) = this ≡ misspells kind place
GivesRead old new c this (Err (error.Limit limit.Bytes)) = this ≡ passes
GivesRead old new c this (Err (error.Limit kind)) = ⊥
GivesRead old new c this (Err error.Source) = this ≡ fails
GivesRead old new c this (Err error.NoMemory) = ⊥

-- the answer is what stands at the front of the bytes that remain
abbrev pub GivesBinary : Bool → Reader → Reader → Contents → Result Token InputError → Type 0
GivesBinary at_start old new c result = GivesRead old new c (token_at c.ending at_start (old.limit - old.taken) old.taken (remaining old c)) result

-- all the bytes were taken
abbrev pub EndsValue : Reader → Reader → Contents → ValueRead → Type 0
EndsValue old new c this = (this ≡ ends) × (remaining new c ≡ []) × Counts old new c × (c.ending ≡ ended)

abbrev pub gives_value : Reader → Reader → Contents → ValueRead → Result ℕ ValueError → Type 0
gives_value old new c this (Ok v) = (this ≡ value v (remaining new c)) × Counts old new c
gives_value old new c this (Err Long) = this ≡ long
gives_value old new c this (Err Ends) = EndsValue old new c this
gives_value old new c this (Err Limit) = this ≡ limited
gives_value old new c this (Err Fault) = (this ≡ ends) × (c.ending ≡ failed)

-- the value at the front of what a reader has still to give
abbrev pub GivesValue : ℕ → Reader → Reader → Contents → Result ℕ ValueError → Type 0
GivesValue most old new c result = gives_value old new c (value_at most (old.limit - old.taken) (remaining old c)) result

abbrev pub is_value_fault : {T : Type 0} → Result T ValueError → Bool
is_value_fault (Err Fault) = true
is_value_fault result = false

-- the first bytes spell a value
abbrev pub SpellsValue : List ℕ → ℕ → Type 0
SpellsValue front v = (room : ℕ) (rest : List ℕ) → length front ≤ room → value_at 10 room (front ++ rest) ≡ value v rest

pub record LeadsValue (bytes : List ℕ) (len v : ℕ) : Type 0 where
  pub some : 0 < len
  pub within : len ≤ length bytes
  pub small : v < 2 ^ 63
  pub spells : SpellsValue (take len bytes) v

-- the first byte without its top bit set stands here
pub record EndsAt (bytes : List ℕ) (at : ℕ) : Type 0 where
  pub within : at < length bytes
  pub few : at < 9
  pub last : slice_index bytes at < 128
  pub more : (k : ℕ) → k < at → 128 ≤ slice_index bytes k

-- a token was taken of the bytes at hand
pub record TakesNumber (old new : Reader) (t : Token) : Type 0 where
  pub skips : Skips old new
  pub advances : Advances old new t.word
  pub gives : (c : Contents) (more : List ℕ) → remaining old c ≡ old.ahead ++ more → GivesBinary false old new c (Ok t)

-- the answer that a word or a fault at a place is
abbrev pub answer_of : ℕ → Result Word TextKind → Result Token InputError
answer_of place (Ok w) = Ok (record { place = place; word = w })
answer_of place (Err kind) = Err (error.Text kind place)

abbrev pub item_answer : ℕ → ℕ → Result Token InputError
item_answer b place =
    if b == 97 then Ok (record { place = place; word = word.Add })
    else (if b == 100 then Ok (record { place = place; word = word.Del }) else Err (error.Text BadWord place))

abbrev pub end_answer : ℕ → ℕ → Result Token InputError
end_answer place end = if place == end then Ok (record { place = place; word = word.End }) else Err (error.Text Unended end)
