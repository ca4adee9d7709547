-- How what a reader gives and what is left to it spell what stood at its front.
use Rattle.std.specs.Prelude.{ℕ, ◌≡◌, ◌-◌, ◌<◌, ◌≤◌, [], ℤ, pos, ◌<ℤ◌, nat_abs, List, Option, Some, None, Result, Ok, Err}
use Rattle.sr_base.specs.Contents.{Contents}
use Rattle.sr_base.specs.Literal.{Literal}
use Rattle.sr_base.specs.Limits.{LimitValues}
use Rattle.sr_base.specs.declared.names.Form.{Form}
use Rattle.sr_base.specs.declared.names.LimitKind.TheVariants as limit
use Rattle.sr_base.specs.declared.names.TextKind.TheVariants.{BadNumber}
use Rattle.sr_base.specs.declared.names.InputError.{InputError}
use Rattle.sr_base.specs.declared.names.InputError.TheVariants.{Text, Limit, Source, NoMemory}
use Rattle.sr_desk.specs.Reader.{Reader}
use Rattle.sr_model.specs.declared.tokens.Token.{Token}
use Rattle.sr_model.specs.Tokens.{Tokens, next}
use Rattle.sr_model.specs.BinaryTokens.{open_after}
use Rattle.sr_model.specs.Reading.{Read, reads}
use Rattle.sr_model.specs.Lsr.{MaybeItem, numbers_after, prefix_of, groups_of, dropped_after, with_hints, with_literals, kind_at, item_at}
use Rattle.sr_model.specs.LsrBinary.{binary_step_at, binary_item_at, item_in}
use Rattle.sr_scan.specs.Left.{tokens_left, text_left, binary_left, front_word, Refuses}
use Rattle.sr_wit.specs.LsrItems.{item_of}
use Rattle.sr_wit.specs.declared.item.LsrItem.{LsrItem}

-- less room is left below the limit of bytes
abbrev pub TakesSome : Reader → Reader → Type 0
TakesSome old new = new.limit - new.taken < old.limit - old.taken

-- the items as the definitions know them
abbrev pub item_told : Result (Option LsrItem) InputError → Result MaybeItem InputError
item_told (Ok (Some x)) = Ok (Some (item_of x))
item_told (Ok None) = Ok None
item_told (Err e) = Err e

-- a number at this place that isn't negative, and at most the bound
abbrev pub GivesSize : ℤ → ℕ → ℕ → Result ℕ InputError → Type 0
GivesSize x bound place (Ok n) = (x ≡ pos n) × (n ≤ bound)
GivesSize x bound place (Err (Text kind at)) = (x <ℤ pos 0) × (kind ≡ BadNumber) × (at ≡ place)
GivesSize x bound place (Err (Limit kind)) = (x ≡ pos (nat_abs x)) × (bound < nat_abs x) × (kind ≡ limit.Ids)
GivesSize x bound place (Err Source) = ⊥
GivesSize x bound place (Err NoMemory) = ⊥

-- a prefix, and groups
abbrev pub GivesHints : ℕ → Tokens → Tokens → Result (List ℕ × List (ℕ × List ℕ)) InputError → Type 0
GivesHints bound all left (Ok r) = (hints : List ℤ) × (end : ℕ) × (numbers_after limit.Ids bound [] all ≡ reads (hints, end) left) × (prefix_of hints ≡ r.0) × (groups_of hints ≡ r.1)
GivesHints bound all left (Err e) = Refuses (numbers_after limit.Ids bound [] all) e

-- what was read is made of what is left
abbrev pub GivesFrom : Read MaybeItem → Tokens → Result (Tokens → Read MaybeItem) InputError → Type 0
GivesFrom read left (Ok made) = read ≡ made left
GivesFrom read left (Err e) = Refuses read e

-- the same, or nothing
abbrev pub GivesSomeFrom : Read MaybeItem → Tokens → Result (Option (Tokens → Read MaybeItem)) InputError → Type 0
GivesSomeFrom read left (Ok (Some made)) = read ≡ made left
GivesSomeFrom read left (Ok None) = read ≡ reads None left
GivesSomeFrom read left (Err e) = Refuses read e

abbrev pub ReadsHints : Form → ℕ → Reader → Reader → Contents → Result (List ℕ × List (ℕ × List ℕ)) InputError → Type 0
ReadsHints form bound old new c result = GivesHints bound (tokens_left form 2 1 old c) (tokens_left form 2 0 new c) result

-- a deletion, behind what tells it
abbrev pub ReadsDrop : Form → ℕ → ℕ → Reader → Reader → Contents → Result (Tokens → Read MaybeItem) InputError → Type 0
ReadsDrop form bound id old new c result = GivesFrom (dropped_after bound id [] (tokens_left form 2 1 old c)) (tokens_left form 2 0 new c) result

-- a step, behind its literals, of which a `0` at this place is the end
abbrev pub FinishesStep : Form → LimitValues → ℕ → List Literal → ℕ → Reader → Reader → Contents → Result (Tokens → Read MaybeItem) InputError → Type 0
FinishesStep form lim id lits end old new c result =
    GivesFrom (with_hints id lits end (numbers_after limit.Ids lim.ids [] (tokens_left form 2 1 old c))) (tokens_left form 2 0 new c) result

-- a step of a text, behind its number and the first token of its literals
abbrev pub ReadsTextStep : LimitValues → ℕ → Token → Reader → Reader → Contents → Result (Tokens → Read MaybeItem) InputError → Type 0
ReadsTextStep lim id t old new c result = GivesFrom (with_literals lim id (numbers_after limit.Vars lim.vars [] (next t (text_left old c)))) (text_left new c) result

-- an item of a text, behind its number, which stands at this place
abbrev pub ReadsNumbered : LimitValues → ℕ → ℕ → Reader → Reader → Contents → Result (Tokens → Read MaybeItem) InputError → Type 0
ReadsNumbered lim id at old new c result = GivesFrom (kind_at lim id at (text_left old c)) (text_left new c) result

-- the item of a text that a token begins
abbrev pub ReadsTextItem : LimitValues → Token → Reader → Reader → Contents → Result (Tokens → Read MaybeItem) InputError → Type 0
ReadsTextItem lim t old new c result = GivesFrom (item_at lim (front_word t.place t.word (text_left old c))) (text_left new c) result

-- a step of a binary file, behind its number
abbrev pub ReadsLiterals : LimitValues → ℕ → Reader → Reader → Contents → Result (Tokens → Read MaybeItem) InputError → Type 0
ReadsLiterals lim id old new c result = GivesFrom (with_literals lim id (numbers_after limit.Vars lim.vars [] (binary_left 2 2 old c))) (binary_left 2 0 new c) result

-- a step of a binary file, behind the byte that tells it
abbrev pub ReadsBinaryStep : LimitValues → Reader → Reader → Contents → Result (Tokens → Read MaybeItem) InputError → Type 0
ReadsBinaryStep lim old new c result = GivesFrom (binary_step_at lim (binary_left 2 2 old c)) (binary_left 2 0 new c) result

-- the item of a binary file that a byte begins
abbrev pub ReadsBinaryItem : LimitValues → Token → Reader → Reader → Contents → Result (Tokens → Read MaybeItem) InputError → Type 0
ReadsBinaryItem lim t old new c result =
    GivesFrom (binary_item_at lim (front_word t.place t.word (binary_left 2 (open_after 2 0 t.word) old c))) (binary_left 2 0 new c) result

-- the item that a token begins
abbrev pub ReadsBegun : Form → LimitValues → Token → Reader → Reader → Contents → Result (Tokens → Read MaybeItem) InputError → Type 0
ReadsBegun form lim t old new c result =
    GivesFrom (item_in form lim (front_word t.place t.word (tokens_left form 2 (open_after 2 0 t.word) old c))) (tokens_left form 2 0 new c) result
