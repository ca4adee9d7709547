-- The machine that reads the tokens of a text byte by byte.
use Rattle.std.specs.Prelude.{◌≡◌, ℕ, false, zero, suc, ◌+◌, ◌-◌, ◌<◌, ◌≤◌, ◌++◌, length, List, [], ◌∷◌, Option, Some, None, Result, Ok, Err, if◌then◌else◌}
use Rattle.sr_base.specs.Contents.{Ending, ended, failed, Contents}
use Rattle.sr_base.specs.declared.names.InputError.{InputError}
use Rattle.sr_desk.specs.Reader.{Reader, buffered, skipped}
use Rattle.sr_desk.specs.Next.{remaining}
use Rattle.sr_scan.specs.declared.lexeme.Lexeme.{Lexeme}
use Rattle.sr_scan.specs.declared.lexeme.Gap.{Gap}
use Rattle.sr_model.specs.declared.tokens.Token.{Token}
use Rattle.sr_model.specs.Words.{is_white}
use Rattle.sr_model.specs.Tokens.{Tokens, finished, over, lost, next, judged}
use Rattle.sr_scan.specs.Lexeme.{begun, extended, word_of, gap_at, gap_after}
use Rattle.sr_scan.specs.Front.{is_end}
use Rattle.sr_scan.specs.Left.{RefusesToken, Advances}

-- between tokens, or within one that began at a place
pub data Mode : Type 0 where
  between : Gap → Mode
  within : ℕ → Lexeme → Mode

abbrev pub begins : ℕ → ℕ → Option Gap → Mode
begins place b (Some g) = between g
begins place b None = within place (begun b)

-- the mode after a byte that stands at a place
abbrev pub moved : Mode → ℕ → ℕ → Mode
moved (between g) b place = begins place b (gap_after g b)
moved (within p l) b place = if is_white b then between (gap_at (Some b)) else within p (extended l b)

-- what a byte adds to what follows
abbrev pub told : Mode → ℕ → Tokens → Tokens
told (between g) b rest = rest
told (within p l) b rest = if is_white b then judged p (word_of l) rest else rest

-- behind the last byte the file ends, and with it a token, or a read fails
abbrev pub last_told : Ending → Mode → ℕ → Tokens
last_told ended (between g) place = finished place
last_told ended (within p l) place = judged p (word_of l) (finished place)
last_told failed m place = lost

-- what follows, where a byte may still be read
abbrev pub limited : ℕ → Tokens → Tokens
limited zero rest = over
limited (suc room) rest = rest

-- the tokens of the bytes from a place on, of which so many may be read
unfoldable pub texts : Ending → Mode → ℕ → ℕ → List ℕ → Tokens
texts e m room place [] = last_told e m place
texts e m room place (b ∷ bs) = limited room (told m b (texts e (moved m b place) (room - 1) (place + 1) bs))

-- the lexeme of a token
abbrev pub lexeme_after : Lexeme → List ℕ → Lexeme
lexeme_after l [] = l
lexeme_after l (b ∷ bs) = lexeme_after (extended l b) bs

-- what is left to a reader
abbrev pub texts_in : Mode → Reader → Contents → Tokens
texts_in m r c = texts c.ending m (r.limit - r.taken) r.taken (remaining r c)

abbrev pub machine_left : Reader → Contents → Tokens
machine_left r c = texts_in (between (gap_at r.last)) r c

-- all up to the first byte of a token was passed over
abbrev pub Begins : Reader → Reader → Contents → Result (Option ℕ) InputError → Type 0
Begins old new c (Ok (Some b)) = machine_left old c ≡ texts_in (within (new.taken - 1) (begun b)) new c
Begins old new c (Ok None) = (machine_left old c ≡ finished new.taken) × (machine_left new c ≡ finished new.taken)
Begins old new c (Err e) = RefusesToken (machine_left old c) e

-- the first byte of a token was taken
abbrev pub TakesFirst : Reader → Reader → Option ℕ → Type 0
TakesFirst old new (Some b) = (0 < new.taken) × (new.limit - new.taken < old.limit - old.taken)
TakesFirst old new None = Unit {0}

-- a token was read to its end
abbrev pub Finishes : Lexeme → Reader → Reader → Contents → Result Lexeme InputError → Type 0
Finishes l old new c (Ok whole) = (place : ℕ) → texts_in (within place l) old c ≡ judged place (word_of whole) (machine_left new c)
Finishes l old new c (Err e) = (place : ℕ) → RefusesToken (texts_in (within place l) old c) e

-- some bytes at hand were taken
pub record Skips (old new : Reader) : Type 0 where
  pub count : ℕ
  pub within : count ≤ length (buffered old)
  pub same : new ≡ skipped old count

-- a token was taken of the bytes at hand
pub record TakesToken (old new : Reader) (t : Token) : Type 0 where
  pub skips : Skips old new
  pub word : is_end t.word ≡ false
  pub advances : Advances old new t.word
  pub left : (c : Contents) (more : List ℕ) → remaining old c ≡ old.ahead ++ more → machine_left old c ≡ next t (machine_left new c)
