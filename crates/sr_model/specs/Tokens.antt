-- The tokens of a file, and what ends them.
use Rattle.std.specs.Prelude.{ℕ, Result, Ok, Err}
use Rattle.sr_base.specs.declared.names.TextKind.{TextKind}
use Rattle.sr_base.specs.Contents.{Ending, ended, failed}
use Rattle.sr_model.specs.declared.tokens.Word.{Word}
use Rattle.sr_model.specs.declared.tokens.Token.{Token}

pub data Tokens : Type 0 where
  -- the file ends here
  finished : ℕ → Tokens
  -- a token is no word, at this place
  stopped : TextKind → ℕ → Tokens
  -- there is a byte past the limit
  over : Tokens
  -- a read failed, and what it was to give may be part of the next token
  lost : Tokens
  next : Token → Tokens → Tokens

abbrev pub judged : ℕ → Result Word TextKind → Tokens → Tokens
judged place (Ok w) rest = next (record { place = place; word = w }) rest
judged place (Err k) rest = stopped k place

-- where no token follows the last byte, and the next one would stand at this place
abbrev pub ending_at : Ending → ℕ → Tokens
ending_at ended place = finished place
ending_at failed place = lost
