-- How a token of a binary file is read byte by byte. Its bytes are those of a run, of which at most ten are taken.
use Rattle.std.specs.Prelude.{ℕ, zero, suc, ◌+◌, ◌-◌, ◌*◌, ◌/◌, ◌%◌, ◌==◌, nat_lt, Bool, true, false, List, [], ◌∷◌, length, Result, Ok, Err, if◌then◌else◌, ℤ, pos, negsuc}
use Rattle.sr_base.specs.Contents.{Ending, ended, failed}
use Rattle.sr_base.specs.declared.names.TextKind.{TextKind}
use Rattle.sr_base.specs.declared.names.TextKind.TheVariants.{BadWord, Unended, TooWide}
use Rattle.sr_model.specs.declared.tokens.Word.{Word}
use Rattle.sr_model.specs.declared.tokens.Word.TheVariants as word
use Rattle.sr_model.specs.declared.tokens.Token.{Token}
use Rattle.sr_model.specs.BinaryTokens.{value_word}

-- the value at the front, and the bytes after it; or what stands against it
pub data ValueRead : Type 0 where
  value : ℕ → List ℕ → ValueRead
  -- the last byte that it may have says that another follows
  long : ValueRead
  -- the bytes end before it does
  ends : ValueRead
  -- it needs a byte past the limit
  limited : ValueRead

-- low bits, and so many times the value of the bytes that follow
abbrev pub plus : ℕ → ℕ → ValueRead → ValueRead
plus low scale (value v rest) = value (low + scale * v) rest
plus low scale long = long
plus low scale ends = ends
plus low scale limited = limited

-- the value of at most so many bytes, of which so many may be read
abbrev pub value_at : ℕ → ℕ → List ℕ → ValueRead
value_at zero room bs = long
value_at (suc most) room [] = ends
value_at (suc most) zero (b ∷ bs) = limited
value_at (suc most) (suc room) (b ∷ bs) = if nat_lt b 128 then value b bs else plus (b - 128) 128 (value_at most room bs)

-- the token at the front, and the bytes after it; or the first fault, or the limit, or a failed read
pub data TokenRead : Type 0 where
  reads : Token → List ℕ → TokenRead
  misspells : TextKind → ℕ → TokenRead
  passes : TokenRead
  fails : TokenRead

abbrev pub number_by : ℕ → List ℕ → Result Word TextKind → TokenRead
number_by place rest (Ok w) = reads (record { place = place; word = w }) rest
number_by place rest (Err k) = misspells k place

-- where the bytes end between tokens, and inside one
abbrev pub end_at : Ending → ℕ → TokenRead
end_at ended place = reads (record { place = place; word = word.End }) []
end_at failed place = fails

abbrev pub cut_at : Ending → ℕ → TokenRead
cut_at ended end = misspells Unended end
cut_at failed end = fails

-- a number of at most ten bytes that begins at a place, in bytes that end at a place
abbrev pub number_at : Ending → ℕ → ℕ → ValueRead → TokenRead
number_at e place end (value v rest) = number_by place rest (value_word v)
number_at e place end long = misspells TooWide place
number_at e place end ends = cut_at e end
number_at e place end limited = passes

-- where an item begins, its first byte says what it is
abbrev pub item_at : Ending → ℕ → ℕ → List ℕ → TokenRead
item_at e room place [] = end_at e place
item_at e zero place (b ∷ bs) = passes
item_at e (suc room) place (b ∷ bs) =
    if b == 97 then reads (record { place = place; word = word.Add }) bs
    else (if b == 100 then reads (record { place = place; word = word.Del }) bs else misspells BadWord place)

-- the token at the front of the bytes from a place on, of which so many may be read
abbrev pub token_at : Ending → Bool → ℕ → ℕ → List ℕ → TokenRead
token_at e true room place bytes = item_at e room place bytes
token_at e false room place [] = end_at e place
token_at e false room place (b ∷ bs) = number_at e place (place + length (b ∷ bs)) (value_at 10 room (b ∷ bs))
