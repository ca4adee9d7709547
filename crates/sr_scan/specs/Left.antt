-- The tokens that are left to a reader, and what is read of them.
use Rattle.std.specs.Prelude.{◌≡◌, ℕ, ◌-◌, ◌<◌, Bool, true, false, Result, Ok, Err}
use Rattle.sr_base.specs.Contents.{Contents}
use Rattle.sr_base.specs.declared.names.Form.{Form}
use Rattle.sr_base.specs.declared.names.Form.TheVariants as form
use Rattle.sr_base.specs.declared.names.TextKind.{TextKind}
use Rattle.sr_base.specs.declared.names.TextKind.TheVariants.{BadWord, Unended}
use Rattle.sr_base.specs.declared.names.LimitKind.TheVariants as limit
use Rattle.sr_base.specs.declared.names.InputError.{InputError}
use Rattle.sr_base.specs.declared.names.InputError.TheVariants.{Text, Limit, Source, NoMemory}
use Rattle.sr_desk.specs.Reader.{Reader}
use Rattle.sr_desk.specs.Next.{remaining}
use Rattle.sr_desk.specs.declared.reader.ReadError.{ReadError}
use Rattle.sr_desk.specs.declared.reader.ReadError.TheVariants as read_error
use Rattle.sr_model.specs.declared.tokens.Token.{Token}
use Rattle.sr_model.specs.declared.tokens.Word.{Word}
use Rattle.sr_model.specs.declared.tokens.Word.TheVariants.{End}
use Rattle.sr_model.specs.Tokens.{Tokens, finished, stopped, over, lost, next}
use Rattle.sr_model.specs.TextTokens.{spelled_from}
use Rattle.sr_model.specs.BinaryTokens.{binary_from}
use Rattle.sr_model.specs.Reading.{Read, reads, misspells, passes, fails}

-- what is left of a text of such contents
abbrev pub text_left : Reader → Contents → Tokens
text_left r c = spelled_from c.ending r.last (r.limit - r.taken) r.taken (remaining r c)

-- and of a binary file, where a step or a lemma has so many lists, and so many are open
abbrev pub binary_left : ℕ → ℕ → Reader → Contents → Tokens
binary_left lists open_lists r c = binary_from c.ending lists open_lists (r.limit - r.taken) r.taken (remaining r c)

abbrev pub tokens_left : Form → ℕ → ℕ → Reader → Contents → Tokens
tokens_left form.Text lists open_lists r c = text_left r c
tokens_left form.Binary lists open_lists r c = binary_left lists open_lists r c

-- an item begins where no list is open
abbrev pub IsStart : Bool → ℕ → Type 0
IsStart true open_lists = open_lists ≡ 0
IsStart false open_lists = 0 < open_lists

-- a read of the file failed
abbrev pub is_source : InputError → Bool
is_source Source = true
is_source e = false

abbrev pub is_fault : {T : Type 0} → Result T InputError → Bool
is_fault (Ok x) = false
is_fault (Err e) = is_source e

abbrev pub error_of : ReadError → InputError
error_of read_error.Fault = Source
error_of read_error.Limit = Limit limit.Bytes

-- the error is what stands at the front; out of memory says nothing of the file
abbrev pub Refuses : {A : Type 0} → Read A → InputError → Type 0
Refuses read (Text kind place) = read ≡ misspells kind place
Refuses read (Limit kind) = read ≡ passes kind
Refuses read Source = read ≡ fails
Refuses read NoMemory = Unit {0}

-- what stood at the front was read, and these tokens are left; or it is no such thing
abbrev pub Gives : {A : Type 0} → Read A → Tokens → Result A InputError → Type 0
Gives read left (Ok x) = read ≡ reads x left
Gives read left (Err e) = Refuses read e

-- a token before others; behind the end there is nothing
abbrev pub front_word : ℕ → Word → Tokens → Tokens
front_word place End rest = finished place
front_word place w rest = next (record { place = place; word = w }) rest

-- no token stands at the front
abbrev pub RefusesToken : Tokens → InputError → Type 0
RefusesToken all (Text kind place) = all ≡ stopped kind place
RefusesToken all (Limit limit.Bytes) = all ≡ over
RefusesToken all (Limit kind) = ⊥
RefusesToken all Source = all ≡ lost
RefusesToken all NoMemory = ⊥

-- the first of the tokens was read, and the others are left; the end is left then
abbrev pub GivesToken : Tokens → Tokens → Result Token InputError → Type 0
GivesToken all left (Ok t) = (all ≡ front_word t.place t.word left) × (t.word ≡ End → left ≡ finished t.place)
GivesToken all left (Err e) = RefusesToken all e

-- a token that isn't the end takes a byte, so less room is left below the limit
abbrev pub Advances : Reader → Reader → Word → Type 0
Advances old new End = Unit {0}
Advances old new w = new.limit - new.taken < old.limit - old.taken

-- the fault of a token inside an item that isn't what is asked for
abbrev pub misplaced : Word → TextKind
misplaced End = Unended
misplaced w = BadWord
