-- The tokens of a text.
-- A line is what stands between line feeds. A line whose first byte that isn't white is `c` is a comment.
-- A token begins at a byte of another line that isn't white and has no such byte before it, and is the longest run from there.
use Rattle.std.specs.Prelude.{ℕ, ◌+◌, ◌==◌, ◌&&◌, nat_le, nat_lt, Bool, true, false, not, Option, Some, None, List, [], ◌∷◌, ◌++◌, length, if◌then◌else◌}
use Rattle.sr_model.specs.Words.{is_white, said_by}
use Rattle.sr_base.specs.Contents.{Ending, ended, failed, Contents}
use Rattle.sr_model.specs.Tokens.{Tokens, finished, over, lost, judged}

-- the bytes of a token, and the place of the first
pub record Run : Type 0 where
  pub place : ℕ
  pub bytes : List ℕ

abbrev pub first_line : List ℕ → List ℕ
first_line [] = []
first_line (b ∷ bs) = if b == 10 then [] else b ∷ first_line bs

abbrev pub next_lines : List ℕ → List (List ℕ)
next_lines [] = []
next_lines (b ∷ bs) = if b == 10 then first_line bs ∷ next_lines bs else next_lines bs

-- the bytes at the front that aren't white
abbrev pub run : List ℕ → List ℕ
run [] = []
run (b ∷ bs) = if is_white b then [] else b ∷ run bs

-- the runs of a line from a place on; the byte before is white, or there is none
abbrev pub runs_in : Bool → ℕ → List ℕ → List Run
runs_in free place [] = []
runs_in free place (b ∷ bs) =
    if free && not (is_white b) then record { place = place; bytes = run (b ∷ bs) } ∷ runs_in (is_white b) (place + 1) bs
    else runs_in (is_white b) (place + 1) bs

abbrev pub is_comment : List ℕ → Bool
is_comment [] = false
is_comment (b ∷ bs) = if is_white b then is_comment bs else b == 99

abbrev pub tokens_of_line : ℕ → List ℕ → List Run
tokens_of_line place line = if is_comment line then [] else runs_in true place line

abbrev pub tokens_of_lines : ℕ → List (List ℕ) → List Run
tokens_of_lines place [] = []
tokens_of_lines place (l ∷ ls) = tokens_of_line place l ++ tokens_of_lines (place + length l + 1) ls

-- a text begins a line where no byte stands before it, or a line feed
abbrev pub begins_line : Option ℕ → Bool
begins_line None = true
begins_line (Some b) = b == 10

-- the rest of a line that tokens of it stand before is no comment
abbrev pub tokens_of_first : Bool → ℕ → List ℕ → List Run
tokens_of_first begins place line = if begins then tokens_of_line place line else runs_in true place line

-- the tokens of what is left of a text, from a place on
abbrev pub tokens_from : Bool → ℕ → List ℕ → List Run
tokens_from begins place text =
    tokens_of_first begins place (first_line text) ++ tokens_of_lines (place + length (first_line text) + 1) (next_lines text)

-- what they say, up to the first that says nothing
abbrev pub said : List Run → Tokens → Tokens
said [] end = end
said (r ∷ rs) end = judged r.place (said_by r.bytes) (said rs end)

-- the tokens that end before a place, with the byte that ends them
abbrev pub kept_below : ℕ → List Run → List Run
kept_below limit [] = []
kept_below limit (r ∷ rs) = if nat_lt (r.place + length r.bytes) limit then r ∷ kept_below limit rs else kept_below limit rs

-- what tokens up to the last byte say, and what follows: a token that a failed read may have cut says nothing
abbrev pub all_said : Ending → ℕ → List Run → Tokens
all_said ended end rs = said rs (finished end)
all_said failed end rs = said (kept_below end rs) lost

-- what the rest of a text says, after a byte and from a place on, where so many bytes may be read
unfoldable pub spelled_from : Ending → Option ℕ → ℕ → ℕ → List ℕ → Tokens
spelled_from ending before room place text =
    if nat_le (length text) room then all_said ending (place + length text) (tokens_from (begins_line before) place text)
    else said (kept_below (place + room) (tokens_from (begins_line before) place text)) over

-- what a whole text says, of which so many bytes may be read
abbrev pub spelled : ℕ → Contents → Tokens
spelled limit c = spelled_from c.ending None limit 0 c.bytes
