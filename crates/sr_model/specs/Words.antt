-- What a token of text says, from all its bytes at once.
use Rattle.std.specs.Prelude.{ℕ, ◌+◌, ◌-◌, ◌*◌, ◌^◌, ◌==◌, ◌&&◌, ◌||◌, nat_le, nat_lt, Bool, true, false, List, [], ◌∷◌, Result, Ok, Err, if◌then◌else◌, codes, ℤ, pos, negsuc}
use Rattle.std.specs.List.{list_all}
use Rattle.std.specs.Str.{bytes_eq}
use Rattle.sr_base.specs.declared.names.TextKind.{TextKind}
use Rattle.sr_base.specs.declared.names.TextKind.TheVariants.{BadNumber, TooWide}
use Rattle.sr_model.specs.declared.tokens.Word.{Word}
use Rattle.sr_model.specs.declared.tokens.Word.TheVariants as word

-- a blank, a tab, or an end of a line
abbrev pub is_white : ℕ → Bool
is_white b = (nat_le 9 b && nat_le b 13) || b == 32

abbrev pub is_digit : ℕ → Bool
is_digit b = nat_le 48 b && nat_le b 57

-- the value of digits after those before
abbrev pub value_after : ℕ → List ℕ → ℕ
value_after n [] = n
value_after n (d ∷ ds) = value_after (10 * n + (d - 48)) ds

abbrev pub signed : Bool → ℕ → ℤ
signed false size = pos size
signed true size = negsuc (size - 1)

-- a size that fits 63 bits is a number, but for a zero with a sign
abbrev pub number_word : Bool → ℕ → Result Word TextKind
number_word negative size =
    if negative && size == 0 then Err BadNumber
    else (if nat_lt size (2 ^ 63) then Ok (word.Number (signed negative size)) else Err TooWide)

-- a number: digits, of which there is at least one
abbrev pub number_by : Bool → List ℕ → Result Word TextKind
number_by negative [] = Err BadNumber
number_by negative (d ∷ ds) =
    if list_all is_digit (d ∷ ds) then number_word negative (value_after 0 (d ∷ ds)) else Err BadNumber

-- a token that begins with a digit or a sign has to be a number
abbrev pub said_by : List ℕ → Result Word TextKind
said_by [] = Ok word.Other
said_by (b ∷ bs) =
    if b == 45 then number_by true bs
    else (if is_digit b then number_by false (b ∷ bs)
    else (if bytes_eq (b ∷ bs) (codes "d") then Ok word.Del
    else (if bytes_eq (b ∷ bs) (codes "p") then Ok word.Header
    else (if bytes_eq (b ∷ bs) (codes "cnf") then Ok word.Cnf
    else (if bytes_eq (b ∷ bs) (codes "%") then Ok word.Percent
    else Ok word.Other)))))
