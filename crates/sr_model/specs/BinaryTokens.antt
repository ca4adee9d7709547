-- The tokens of a binary file.
-- The file is a row of runs of bytes. A run ends at its first byte without the top bit, or with the file.
-- Where an item begins, a byte tells which. In an item each run is a number: a byte gives its low seven bits, those of the first byte are
-- the lowest, and the lowest bit of all is the sign. The value 0 ends a list, and the item with its last list.
use Rattle.std.specs.Prelude.{ℕ, zero, suc, ◌+◌, ◌-◌, ◌*◌, ◌/◌, ◌%◌, ◌==◌, nat_le, nat_lt, pos, List, [], ◌∷◌, length, take, Bool, Option, Some, None, Result, Ok, Err, if◌then◌else◌}
use Rattle.std.specs.List.{list_any}
use Rattle.sr_base.specs.declared.names.TextKind.{TextKind}
use Rattle.sr_base.specs.declared.names.TextKind.TheVariants.{BadWord, TooWide, Unended}
use Rattle.sr_model.specs.declared.tokens.Word.{Word}
use Rattle.sr_model.specs.declared.tokens.Word.TheVariants as word
use Rattle.sr_model.specs.Words.{number_word}
use Rattle.sr_base.specs.Contents.{Ending, ended, failed, Contents}
use Rattle.sr_model.specs.Tokens.{Tokens, stopped, over, lost, next, ending_at}
use Rattle.sr_model.specs.TextTokens.{Run}

-- a byte without the top bit
abbrev pub is_last : ℕ → Bool
is_last b = nat_lt b 128

-- a byte in front of the run that follows it
abbrev pub joined : ℕ → ℕ → List Run → List Run
joined place b [] = record { place = place; bytes = b ∷ [] } ∷ []
joined place b (r ∷ rs) = record { place = place; bytes = b ∷ r.bytes } ∷ rs

-- the runs from a place on
abbrev pub runs_from : ℕ → List ℕ → List Run
runs_from place [] = []
runs_from place (b ∷ bs) = if is_last b then record { place = place; bytes = b ∷ [] } ∷ runs_from (place + 1) bs else joined place b (runs_from (place + 1) bs)

-- a byte without its top bit
abbrev pub low_bits : ℕ → ℕ
low_bits b = if is_last b then b else b - 128

-- the value of the bytes of a number
abbrev pub value_of : List ℕ → ℕ
value_of [] = 0
value_of (b ∷ bs) = low_bits b + 128 * value_of bs

-- the lowest bit of a value is the sign, and the others are the size
abbrev pub value_word : ℕ → Result Word TextKind
value_word v = number_word (v % 2 == 1) (v / 2)

-- what at most ten bytes say as a number; nothing where the number doesn't end among them and further bytes may follow
abbrev pub number_said : List ℕ → Option (Result Word TextKind)
number_said bytes =
    if list_any is_last bytes then Some (value_word (value_of bytes))
    else (if length bytes == 10 then Some (Err TooWide) else None)

-- `61` begins a step or a lemma, and `64` a deletion
abbrev pub begun : List ℕ → Result Word TextKind
begun [] = Err BadWord
begun (b ∷ bs) = if b == 97 then Ok word.Add else (if b == 100 then Ok word.Del else Err BadWord)

-- what a run says where so many lists of an item are open
abbrev pub run_said : ℕ → List ℕ → Option (Result Word TextKind)
run_said zero bytes = Some (begun bytes)
run_said (suc open_lists) bytes = number_said (take 10 bytes)

-- how many lists are open after a word, where an item that `61` begins has so many
abbrev pub open_after : ℕ → ℕ → Word → ℕ
open_after lists open_lists word.Add = lists
open_after lists open_lists word.Del = 1
open_after lists open_lists (word.Number (pos zero)) = open_lists - 1
open_after lists open_lists w = open_lists

-- a run that says a word is a token, and more follows; one that says nothing yet is cut off
abbrev pub by_run : ℕ → Option (Result Word TextKind) → Tokens → (Word → Tokens) → Tokens
by_run place None cut more = cut
by_run place (Some (Ok w)) cut more = next (record { place = place; word = w }) (more w)
by_run place (Some (Err kind)) cut more = stopped kind place

-- what the runs say, with what stands at their end, and where the last is cut off
abbrev pub said_in : ℕ → ℕ → List Run → Tokens → Tokens → Tokens
said_in lists open_lists [] end cut = end
said_in lists open_lists (r ∷ rs) end cut = by_run r.place (run_said open_lists r.bytes) cut (λ w. said_in lists (open_after lists open_lists w) rs end cut)

-- where the bytes end inside a number
abbrev pub cut_at : Ending → ℕ → Tokens
cut_at ended place = stopped Unended place
cut_at failed place = lost

-- what the rest of a binary file says from a place on, where so many lists are open and so many bytes may be read
unfoldable pub binary_from : Ending → ℕ → ℕ → ℕ → ℕ → List ℕ → Tokens
binary_from ending lists open_lists room place bytes =
    if nat_le (length bytes) room
    then said_in lists open_lists (runs_from place bytes) (ending_at ending (place + length bytes)) (cut_at ending (place + length bytes))
    else said_in lists open_lists (runs_from place (take room bytes)) over over

-- what a whole binary file says, of which so many bytes may be read
abbrev pub spelled_binary : ℕ → ℕ → Contents → Tokens
spelled_binary lists limit c = binary_from c.ending lists 0 limit 0 c.bytes
