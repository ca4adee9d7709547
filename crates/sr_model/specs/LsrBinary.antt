-- Items of a proof by hints in a binary file, and in either form.
use Rattle.std.specs.Prelude.{ℕ, zero, suc, ◌≡◌, nat_le, pos, negsuc, List, [], ◌∷◌, Some, None, if◌then◌else◌}
use Rattle.sr_base.specs.Limits.{LimitValues}
use Rattle.sr_base.specs.Contents.{Contents}
use Rattle.sr_base.specs.declared.names.Form.{Form}
use Rattle.sr_base.specs.declared.names.Form.TheVariants.{Text, Binary}
use Rattle.sr_base.specs.declared.names.TextKind.TheVariants.{BadNumber, BadWord, Unended}
use Rattle.sr_base.specs.declared.names.LimitKind.TheVariants as limit
use Rattle.sr_model.specs.declared.tokens.Word.{Word}
use Rattle.sr_model.specs.declared.tokens.Word.TheVariants as word
use Rattle.sr_model.specs.Tokens.{Tokens, finished, stopped, over, lost, next}
use Rattle.sr_model.specs.Reading.{Read, reads, misspells, passes, fails}
use Rattle.sr_model.specs.TextTokens.{spelled}
use Rattle.sr_model.specs.BinaryTokens.{spelled_binary}
use Rattle.sr_model.specs.Judging.{Item, ItemHasPivot}
use Rattle.sr_model.specs.Lsr.{MaybeItem, numbers_after, with_literals, dropped_after, item_at}

-- a step's number is at least 1
abbrev pub by_step_number : LimitValues → Word → ℕ → Tokens → Read MaybeItem
by_step_number lim (word.Number (pos zero)) place rest = misspells BadNumber place
by_step_number lim (word.Number (pos (suc n))) place rest =
    if nat_le (suc n) lim.ids then with_literals lim (suc n) (numbers_after limit.Vars lim.vars [] rest) else passes limit.Ids
by_step_number lim (word.Number (negsuc n)) place rest = misspells BadNumber place
by_step_number lim word.End place rest = misspells Unended place
by_step_number lim w place rest = misspells BadWord place

abbrev pub binary_step_at : LimitValues → Tokens → Read MaybeItem
binary_step_at lim (next t rest) = by_step_number lim t.word t.place rest
binary_step_at lim (finished place) = misspells Unended place
binary_step_at lim (stopped kind place) = misspells kind place
binary_step_at lim over = passes limit.Bytes
binary_step_at lim lost = fails

-- a deletion has no number of its own, and is read with the number 0
abbrev pub by_byte : LimitValues → Word → ℕ → Tokens → Read MaybeItem
by_byte lim word.Add place rest = binary_step_at lim rest
by_byte lim word.Del place rest = dropped_after lim.ids 0 [] rest
by_byte lim w place rest = misspells BadWord place

-- the item at the front of the tokens of a binary file
unfoldable pub binary_item_at : LimitValues → Tokens → Read MaybeItem
binary_item_at lim (next t rest) = by_byte lim t.word t.place rest
binary_item_at lim (finished place) = reads None (finished place)
binary_item_at lim (stopped kind place) = misspells kind place
binary_item_at lim over = passes limit.Bytes
binary_item_at lim lost = fails

abbrev pub item_in : Form → LimitValues → Tokens → Read MaybeItem
item_in Text lim ts = item_at lim ts
item_in Binary lim ts = binary_item_at lim ts

-- the tokens of a whole file of items, of which so many bytes may be read; in a binary one a step is two lists, with its number in front
abbrev pub item_tokens : Form → ℕ → Contents → Tokens
item_tokens Text limit c = spelled limit c
item_tokens Binary limit c = spelled_binary 2 limit c

-- the tokens spell these items one after another, and this is left
abbrev pub SpellItemsIn : Form → LimitValues → Tokens → List Item → Tokens → Type 0
SpellItemsIn form lim ts [] rest = ts ≡ rest
SpellItemsIn form lim ts (it ∷ items) rest = (mid : Tokens) × (item_in form lim ts ≡ reads (Some it) mid) × SpellItemsIn form lim mid items rest

-- what is read has the pivot of its clause
abbrev pub ReadItemsHavePivots : Type 0
ReadItemsHavePivots = (form : Form) (lim : LimitValues) (ts rest : Tokens) (it : Item) → item_in form lim ts ≡ reads (Some it) rest → ItemHasPivot it
