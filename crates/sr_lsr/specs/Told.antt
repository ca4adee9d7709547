-- What the structs of the code hold.
use Rattle.std.specs.Prelude.{ℕ, ℤ, ◌≡◌, ◌≢◌, ◌<◌, ◌≤◌, ◌∷◌, ◌++◌, [], List, length, Bool, Result, Ok, Err, All}
use Rattle.sr_base.specs.declared.names.Form.{Form}
use Rattle.sr_base.specs.declared.names.Form.TheVariants.{Text, Binary}
use Rattle.sr_base.specs.declared.names.LimitKind.TheVariants as limit
use Rattle.sr_model.specs.declared.tokens.Word.TheVariants as word
use Rattle.sr_model.specs.Tokens.{Tokens}
use Rattle.sr_model.specs.Words.{signed}
use Rattle.sr_model.specs.Lsr.{numbers_after, prefix_of, groups_of}
use Rattle.sr_model.specs.BinaryTokens.{value_word}
use Rattle.sr_base.specs.Contents.{Contents}
use Rattle.sr_desk.specs.Reader.{Reader}
use Rattle.sr_desk.specs.Next.{remaining}
use Rattle.sr_scan.specs.BinaryLeft.{LeadsValue}
use Rattle.sr_scan.specs.Front.{LeadsNumber}
use Rattle.sr_base.specs.declared.names.InputError.{InputError}
use Rattle.sr_scan.specs.Left.{tokens_left}
use Rattle.sr_lsr.specs.declared.hints.Hint.{Hint}
use Rattle.sr_lsr.specs.declared.hints.LeadingHint.{LeadingHint}
use Rattle.sr_lsr.specs.declared.hints.Hints.{Hints}
use Rattle.sr_lsr.specs.Written.{IsSmall, IsSmallGroup}

abbrev pub hints_told : Hints → Result (Unit {0}) InputError → Result (List ℕ × List (ℕ × List ℕ)) InputError
hints_told h (Ok _) = Ok (h.prefix, h.groups)
hints_told h (Err e) = Err e

abbrev pub IsFresh : Hints → Type 0
IsFresh h = (h.prefix ≡ []) × (h.groups ≡ [])

abbrev pub hint_number : Hint → ℤ
hint_number h = signed h.begins_group h.size

-- these numbers spell the hints
abbrev pub Spells : List ℤ → Hints → Type 0
Spells these h = (prefix_of these ≡ h.prefix) × (groups_of these ≡ h.groups)

-- whatever spells the old hints, with one number more it spells the new ones
abbrev pub SpellsMore : Hints → Hints → ℤ → Type 0
SpellsMore old new x = (these : List ℤ) → Spells these old → Spells (these ++ x ∷ []) new

-- the hint of a number that isn't 0 and is at most the bound
pub record IsHintOf (size : ℕ) (negative : Bool) (bound : ℕ) (hint : Hint) : Type 0 where
  pub size_is : hint.size ≡ size
  pub sign_is : hint.begins_group ≡ negative
  pub some : hint.size ≢ 0
  pub within : hint.size ≤ bound

-- the first bytes spell a number, with what parts it from others
abbrev pub SpellsNumber : Form → List ℕ → ℕ → ℕ → Bool → Type 0
SpellsNumber Text bytes len size negative = LeadsNumber bytes len size negative
SpellsNumber Binary bytes len size negative = (value : ℕ) × LeadsValue bytes len value × (value_word value ≡ Ok (word.Number (signed negative size)))

-- the first bytes spell the hint, which is at most the bound
pub record LeadsHint (form : Form) (bytes : List ℕ) (bound : ℕ) (front : LeadingHint) : Type 0 where
  pub spells : SpellsNumber form bytes front.len front.hint.size front.hint.begins_group
  pub len_within : front.len ≤ length bytes
  pub some : front.hint.size ≢ 0
  pub within : front.hint.size ≤ bound

-- whatever spells the old hints goes on with the old tokens as what spells the new hints does with those that are left
abbrev pub GoesOn : ℕ → Tokens → Tokens → Hints → Hints → Type 0
GoesOn bound all left before after = (these : List ℤ) → Spells these before
    → (more : List ℤ) × (numbers_after limit.Ids bound these all ≡ numbers_after limit.Ids bound more left) × Spells more after

-- hints at hand were taken
abbrev pub TakesHints : Form → ℕ → Reader → Reader → Hints → Hints → Type 0
TakesHints form bound old new before after = (c : Contents) (more : List ℕ) (lists open_lists : ℕ) → remaining old c ≡ old.ahead ++ more → 0 < open_lists
    → GoesOn bound (tokens_left form lists open_lists old c) (tokens_left form lists open_lists new c) before after

abbrev pub AreSmall : Hints → Type 0
AreSmall h = All IsSmall h.prefix × All IsSmallGroup h.groups

abbrev pub KeepsSmall : Hints → Hints → ℕ → Type 0
KeepsSmall old new size = IsSmall size → AreSmall old → AreSmall new
