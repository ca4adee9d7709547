-- How the literals that were read and what is left spell what stood at the front.
use Rattle.std.specs.Prelude.{ℕ, ℤ, pos, suc, nat_abs, ◌≡◌, ◌≢◌, ◌+◌, ◌*◌, ◌<◌, ◌≤◌, List, [], ◌++◌, length, map, Bool, Option, Some, None, Result, Ok, Err}
use Rattle.sr_base.specs.Contents.{Contents}
use Rattle.sr_base.specs.Literal.{Literal, number, literal_of, literal_code}
use Rattle.sr_base.specs.declared.names.Form.{Form}
use Rattle.sr_base.specs.declared.names.Form.TheVariants as form
use Rattle.sr_base.specs.declared.names.LimitKind.TheVariants as limit
use Rattle.sr_base.specs.declared.names.InputError.{InputError}
use Rattle.sr_base.specs.declared.names.InputError.TheVariants.{Text, Limit, Source, NoMemory}
use Rattle.sr_desk.specs.Reader.{Reader}
use Rattle.sr_desk.specs.Next.{remaining}
use Rattle.sr_model.specs.declared.tokens.Token.{Token}
use Rattle.sr_model.specs.declared.tokens.Word.TheVariants as word
use Rattle.sr_model.specs.Tokens.{next}
use Rattle.sr_model.specs.Words.{signed}
use Rattle.sr_model.specs.BinaryTokens.{open_after}
use Rattle.sr_model.specs.Lsr.{NumbersTo0, numbers_after}
use Rattle.sr_scan.specs.BinaryLeft.{LeadsValue}
use Rattle.sr_scan.specs.Front.{LeadsNumber}
use Rattle.sr_scan.specs.Left.{tokens_left, misplaced, Gives}

-- the first bytes spell a literal, with what parts it from others: in binary their value is the literal's code
abbrev pub SpellsLiteral : Form → List ℕ → ℕ → Literal → Type 0
SpellsLiteral form.Text bytes len l = (size : ℕ) × (negative : Bool) × LeadsNumber bytes len size negative × (number l ≡ signed negative size)
SpellsLiteral form.Binary bytes len l = LeadsValue bytes len (literal_code l)

-- the first bytes spell a literal, whose variable is within the bound
pub record LeadsLiteral (form : Form) (bytes : List ℕ) (bound len : ℕ) (l : Literal) : Type 0 where
  pub spells : SpellsLiteral form bytes len l
  pub len_within : len ≤ length bytes
  pub low : 2 ≤ literal_code l
  pub high : literal_code l ≤ 2 * bound + 1

-- literals at hand were taken and put behind those that were there, so the numbers that are read with them are the same
pub record TakesLiterals (form : Form) (bound : ℕ) (old new : Reader) (lits lits' : List Literal) : Type 0 where
  pub named : map literal_of (map number lits) ≡ lits → map literal_of (map number lits') ≡ lits'
  pub numbers : (c : Contents) (more : List ℕ) (lists open_lists : ℕ) → remaining old c ≡ old.ahead ++ more → 0 < open_lists
      → numbers_after limit.Vars bound (map number lits) (tokens_left form lists open_lists old c)
      ≡ numbers_after limit.Vars bound (map number lits') (tokens_left form lists open_lists new c)

-- what a token says among literals: one more, their end, or a fault
abbrev pub SaysLiteral : ℕ → Token → Result (Option Literal) InputError → Type 0
SaysLiteral bound t (Ok (Some l)) = (t.word ≡ word.Number (number l)) × (number l ≢ pos 0) × (nat_abs (number l) ≤ bound) × (l ≡ literal_of (number l))
SaysLiteral bound t (Ok None) = t.word ≡ word.Number (pos 0)
SaysLiteral bound t (Err (Text kind place)) = ((x : ℤ) → t.word ≢ word.Number x) × (kind ≡ misplaced t.word) × (place ≡ t.place)
SaysLiteral bound t (Err (Limit kind)) = (x : ℤ) × (t.word ≡ word.Number x) × (x ≢ pos 0) × (bound < nat_abs x) × (kind ≡ limit.Vars)
SaysLiteral bound t (Err Source) = ⊥
SaysLiteral bound t (Err NoMemory) = ⊥

-- the literals as they are written, and the place of the `0` that ends them
abbrev pub numbers_told : List Literal → Result ℕ InputError → Result NumbersTo0 InputError
numbers_told lits (Ok end) = Ok (map number lits, end)
numbers_told lits (Err e) = Err e

-- behind a token, the numbers up to a `0`, which ends one of the open lists
abbrev pub GivesLiterals : Form → ℕ → ℕ → ℕ → Token → Reader → Reader → Contents → Result NumbersTo0 InputError → Type 0
GivesLiterals form lists o bound t old new c result =
    Gives (numbers_after limit.Vars bound [] (next t (tokens_left form lists (open_after lists (suc o) t.word) old c))) (tokens_left form lists o new c) result

-- the same, behind literals that were read already
abbrev pub GivesMore : Form → ℕ → ℕ → ℕ → List Literal → Reader → Reader → Contents → Result NumbersTo0 InputError → Type 0
GivesMore form lists o bound lits old new c result =
    Gives (numbers_after limit.Vars bound (map number lits) (tokens_left form lists (suc o) old c)) (tokens_left form lists o new c) result
