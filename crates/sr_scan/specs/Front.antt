-- A token that stands whole at the front of some bytes.
use Rattle.std.specs.Prelude.{◌≡◌, ◌≢◌, ℕ, ◌+◌, ◌<◌, ◌≤◌, ◌^◌, ◌&&◌, nat_lt, not, Bool, true, false, List, length, take, drop, Ok, slice_index}
use Rattle.std.specs.List.{list_all}
use Rattle.sr_model.specs.declared.tokens.Word.{Word}
use Rattle.sr_model.specs.declared.tokens.Word.TheVariants.{End, Number}
use Rattle.sr_model.specs.Words.{is_white, signed, said_by}

abbrev pub is_dark : ℕ → Bool
is_dark b = not (is_white b)

abbrev pub is_end : Word → Bool
is_end End = true
is_end w = false

-- a white byte stands at a place
abbrev pub ends_at : List ℕ → ℕ → Bool
ends_at bytes at = nat_lt at (length bytes) && is_white (slice_index bytes at)

-- the first bytes are a token that a white byte ends, and begin no comment
pub record Leads (bytes : List ℕ) (len : ℕ) (w : Word) : Type 0 where
  pub some : 0 < len
  pub within : len < length bytes
  pub dark : list_all is_dark (take len bytes) ≡ true
  pub white : is_white (slice_index bytes len) ≡ true
  pub first : slice_index bytes 0 ≢ 99
  pub says : said_by (take len bytes) ≡ Ok w
  pub word : is_end w ≡ false

-- the first bytes are white space, a number and the white byte that ends it
pub record LeadsNumber (bytes : List ℕ) (len size : ℕ) (negative : Bool) : Type 0 where
  pub start : ℕ
  pub digits : ℕ
  pub blank : list_all is_white (take start bytes) ≡ true
  pub leads : Leads (drop start bytes) digits (Number (signed negative size))
  pub len_is : len ≡ start + digits + 1
  pub within : len ≤ length bytes
  pub small : size < 2 ^ 63
