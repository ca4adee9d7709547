-- Items of a proof by hints in text: LRAT's steps and deletions, with witnesses and groups of hints for the clauses that
-- they touch (Codel, Avigad and Heule 2024).
use Rattle.std.specs.Prelude.{ℕ, zero, suc, ◌+◌, ◌==◌, ◌≡◌, nat_le, nat_abs, ℤ, pos, negsuc, List, [], ◌∷◌, ◌++◌, map, Option, Some, None, if◌then◌else◌}
use Rattle.sr_base.specs.Literal.{Literal, literal_of}
use Rattle.sr_base.specs.Limits.{LimitValues}
use Rattle.sr_base.specs.declared.names.TextKind.{TextKind}
use Rattle.sr_base.specs.declared.names.TextKind.TheVariants.{BadNumber, BadWord, Unended}
use Rattle.sr_base.specs.declared.names.LimitKind.{LimitKind}
use Rattle.sr_base.specs.declared.names.LimitKind.TheVariants as limit
use Rattle.sr_model.specs.declared.tokens.Word.{Word}
use Rattle.sr_model.specs.declared.tokens.Word.TheVariants as word
use Rattle.sr_model.specs.Tokens.{Tokens, finished, stopped, over, lost, next}
use Rattle.sr_model.specs.Reading.{Read, reads, misspells, passes, fails, then_reads}
use Rattle.sr_model.specs.Meeting.{Step}
use Rattle.sr_model.specs.Judging.{Item, stepped, dropped}
use Rattle.sr_model.specs.Witnesses.{clause_of_literals, witness_of_literals, fault_of_literals}

-- numbers up to a `0`, and the place of the `0`
abbrev pub NumbersTo0 : Type 0
NumbersTo0 = List ℤ × ℕ

abbrev pub by_number : LimitKind → ℕ → ℤ → ℕ → List ℤ → Tokens → Read NumbersTo0 → Read NumbersTo0
by_number kind bound (pos zero) place these rest more = reads (these, place) rest
by_number kind bound x place these rest more = if nat_le (nat_abs x) bound then more else passes kind

abbrev pub by_word : LimitKind → ℕ → Word → ℕ → List ℤ → Tokens → (ℤ → Read NumbersTo0) → Read NumbersTo0
by_word kind bound (word.Number x) place these rest more = by_number kind bound x place these rest (more x)
by_word kind bound word.End place these rest more = misspells Unended place
by_word kind bound w place these rest more = misspells BadWord place

-- the numbers that go on after these; a size above the bound passes the limit of the kind
unfoldable pub numbers_after : LimitKind → ℕ → List ℤ → Tokens → Read NumbersTo0
numbers_after kind bound these (next t rest) = by_word kind bound t.word t.place these rest (λ x. numbers_after kind bound (these ++ x ∷ []) rest)
numbers_after kind bound these (finished place) = misspells Unended place
numbers_after kind bound these (stopped fault place) = misspells fault place
numbers_after kind bound these over = passes limit.Bytes
numbers_after kind bound these lost = fails

-- the hints before the first negative one, and the groups that the negative ones begin
abbrev pub prefix_of : List ℤ → List ℕ
prefix_of [] = []
prefix_of (pos n ∷ hs) = n ∷ prefix_of hs
prefix_of (negsuc n ∷ hs) = []

abbrev pub groups_of : List ℤ → List (ℕ × List ℕ)
groups_of [] = []
groups_of (pos n ∷ hs) = groups_of hs
groups_of (negsuc n ∷ hs) = (n + 1, prefix_of hs) ∷ groups_of hs

abbrev pub step_of : ℕ → List Literal → List ℤ → Step
step_of id lits hints = record {
  id = id;
  clause = clause_of_literals lits;
  witness = witness_of_literals lits;
  prefix = prefix_of hints;
  groups = groups_of hints;
}

-- an item at the front, or none where the file ends
abbrev pub MaybeItem : Type 0
MaybeItem = Option Item

-- a fault of the whole step is found at its final `0`, and has the place of the `0` that ends the literals
abbrev pub judged_step : Option TextKind → ℕ → Item → Tokens → Read MaybeItem
judged_step None place it rest = reads (Some it) rest
judged_step (Some kind) place it rest = misspells kind place

abbrev pub with_hints : ℕ → List Literal → ℕ → Read NumbersTo0 → Read MaybeItem
with_hints id lits place read = then_reads read (λ hints rest. judged_step (fault_of_literals lits) place (stepped (step_of id lits hints.0)) rest)

abbrev pub with_literals : LimitValues → ℕ → Read NumbersTo0 → Read MaybeItem
with_literals lim id read = then_reads read (λ lits rest. with_hints id (map literal_of lits.0) lits.1 (numbers_after limit.Ids lim.ids [] rest))

-- the numbers of a deletion go on after these; each is positive
abbrev pub by_dropped : ℕ → ℕ → ℤ → ℕ → List ℕ → Tokens → Read MaybeItem → Read MaybeItem
by_dropped bound id (pos zero) place these rest more = reads (Some (dropped id these)) rest
by_dropped bound id (pos (suc n)) place these rest more = if nat_le (suc n) bound then more else passes limit.Ids
by_dropped bound id (negsuc n) place these rest more = misspells BadNumber place

abbrev pub dropped_by_word : ℕ → ℕ → Word → ℕ → List ℕ → Tokens → (ℤ → Read MaybeItem) → Read MaybeItem
dropped_by_word bound id (word.Number x) place these rest more = by_dropped bound id x place these rest (more x)
dropped_by_word bound id word.End place these rest more = misspells Unended place
dropped_by_word bound id w place these rest more = misspells BadWord place

unfoldable pub dropped_after : ℕ → ℕ → List ℕ → Tokens → Read MaybeItem
dropped_after bound id these (next t rest) = dropped_by_word bound id t.word t.place these rest (λ x. dropped_after bound id (these ++ nat_abs x ∷ []) rest)
dropped_after bound id these (finished place) = misspells Unended place
dropped_after bound id these (stopped kind place) = misspells kind place
dropped_after bound id these over = passes limit.Bytes
dropped_after bound id these lost = fails

-- the token after the number tells the kind of the item; a number 0 is judged once that token is a number too
abbrev pub by_kind : LimitValues → ℕ → ℕ → Word → ℕ → Tokens → Tokens → Read MaybeItem
by_kind lim id at word.Del place rest whole = dropped_after lim.ids id [] rest
by_kind lim id at (word.Number x) place rest whole = if id == 0 then misspells BadNumber at else with_literals lim id (numbers_after limit.Vars lim.vars [] whole)
by_kind lim id at word.End place rest whole = misspells Unended place
by_kind lim id at w place rest whole = misspells BadWord place

abbrev pub kind_at : LimitValues → ℕ → ℕ → Tokens → Read MaybeItem
kind_at lim id at (next t rest) = by_kind lim id at t.word t.place rest (next t rest)
kind_at lim id at (finished place) = misspells Unended place
kind_at lim id at (stopped kind place) = misspells kind place
kind_at lim id at over = passes limit.Bytes
kind_at lim id at lost = fails

abbrev pub by_id : LimitValues → Word → ℕ → Tokens → Read MaybeItem
by_id lim (word.Number (pos n)) place rest = if nat_le n lim.ids then kind_at lim n place rest else passes limit.Ids
by_id lim (word.Number (negsuc n)) place rest = misspells BadNumber place
by_id lim w place rest = misspells BadWord place

-- the item at the front of the tokens
unfoldable pub item_at : LimitValues → Tokens → Read MaybeItem
item_at lim (next t rest) = by_id lim t.word t.place rest
item_at lim (finished place) = reads None (finished place)
item_at lim (stopped kind place) = misspells kind place
item_at lim over = passes limit.Bytes
item_at lim lost = fails

-- the tokens spell these items one after another, and this is left
abbrev pub SpellItems : LimitValues → Tokens → List Item → Tokens → Type 0
SpellItems lim ts [] rest = ts ≡ rest
SpellItems lim ts (it ∷ items) rest = (mid : Tokens) × (item_at lim ts ≡ reads (Some it) mid) × SpellItems lim mid items rest
