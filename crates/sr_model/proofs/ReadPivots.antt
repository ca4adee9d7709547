-- What is read in either form has the pivot of its clause.
use Rattle.std.proofs.Common.{◌≡◌, ℕ, zero, suc, List, [], ◌∷◌, ◌++◌, Option, Some, None, subst}
use Rattle.std.specs.Prelude.{ℤ, pos, negsuc, nat_le, nat_abs, map}
use Rattle.sr_base.specs.Literal.{Literal, literal_of}
use Rattle.sr_base.specs.Limits.{LimitValues}
use Rattle.sr_base.specs.declared.names.Form.{Form}
use Rattle.sr_base.specs.declared.names.Form.TheVariants.{Text, Binary}
use Rattle.sr_base.specs.declared.names.TextKind.{TextKind}
use Rattle.sr_base.specs.declared.names.LimitKind.TheVariants as limit
use Rattle.sr_model.specs.declared.tokens.Word.{Word}
use Rattle.sr_model.specs.declared.tokens.Word.TheVariants as word
use Rattle.sr_model.specs.Judging.{Item, stepped, ItemHasPivot, HavePivots}
use Rattle.sr_model.specs.Tokens.{Tokens, finished, stopped, over, lost, next}
use Rattle.sr_model.specs.Reading.{Read, reads, misspells, passes, fails}
use Rattle.sr_model.specs.Witnesses.{fault_of_literals}
use Rattle.sr_model.specs.Lsr.{NumbersTo0, numbers_after, step_of, MaybeItem, judged_step, with_hints, with_literals, by_dropped, dropped_by_word, dropped_after}
use Rattle.sr_model.specs.LsrBinary.{by_step_number, binary_step_at, by_byte, binary_item_at, item_in, SpellItemsIn}
use Rattle.sr_model.specs.Dsr as dsr
use Rattle.sr_model.specs.Dsr.{Lemma, Line, MaybeLine, lemma_of, judged_lemma, with_lemma, with_deletion, by_first, line_at, binary_line_at, line_in, SpellLines, LineHasPivot}
use Rattle.sr_model.proofs.Soundness.{by_test}
use Rattle.sr_model.proofs.Pivots.{literals_have_pivot, step_has_pivot, read_has_pivot}

-- an item that is read
abbrev ReadsWell : Read MaybeItem → Type 0
ReadsWell (reads (Some it) rest) = ItemHasPivot it
ReadsWell (reads None rest) = Unit {0}
ReadsWell (misspells kind place) = Unit {0}
ReadsWell (passes kind) = Unit {0}
ReadsWell fails = Unit {0}

with_hints_well : (id : ℕ) (lits : List Literal) (place : ℕ) (n : Read NumbersTo0) → ReadsWell (with_hints id lits place n)
with_hints_well id lits place (reads hints rest) = at (fault_of_literals lits)
  where
    at : (o : Option TextKind) → ReadsWell (judged_step o place (stepped (step_of id lits hints.0)) rest)
    at None = step_has_pivot id lits hints.0
    at (Some k) = tt
with_hints_well id lits place (misspells kind at) = tt
with_hints_well id lits place (passes kind) = tt
with_hints_well id lits place fails = tt

with_literals_well : (lim : LimitValues) (id : ℕ) (n : Read NumbersTo0) → ReadsWell (with_literals lim id n)
with_literals_well lim id (reads lits rest) = with_hints_well id (map literal_of lits.0) lits.1 (numbers_after limit.Ids lim.ids [] rest)
with_literals_well lim id (misspells kind place) = tt
with_literals_well lim id (passes kind) = tt
with_literals_well lim id fails = tt

by_dropped_well : (bound id : ℕ) (x : ℤ) (place : ℕ) (these : List ℕ) (rest : Tokens) (more : Read MaybeItem) → ReadsWell more → ReadsWell (by_dropped bound id x place these rest more)
by_dropped_well bound id (pos zero) place these rest more r = tt
by_dropped_well bound id (pos (suc n)) place these rest more r = by_test (nat_le (suc n) bound) (λ e. rw e r) (λ e. rw e tt)
by_dropped_well bound id (negsuc n) place these rest more r = tt

dropped_by_word_well : (bound id : ℕ) (w : Word) (place : ℕ) (these : List ℕ) (rest : Tokens) (more : ℤ → Read MaybeItem) → ((x : ℤ) → ReadsWell (more x)) → ReadsWell (dropped_by_word bound id w place these rest more)
dropped_by_word_well bound id (word.Number x) place these rest more r = by_dropped_well bound id x place these rest (more x) (r x)
dropped_by_word_well bound id word.End place these rest more r = tt
dropped_by_word_well bound id _ place these rest more r = tt

dropped_after_well : (bound id : ℕ) (these : List ℕ) (ts : Tokens) → ReadsWell (dropped_after bound id these ts)
unfolding dropped_after
dropped_after_well bound id these (next t rest) = dropped_by_word_well bound id t.word t.place these rest (λ x. dropped_after bound id (these ++ nat_abs x ∷ []) rest) (λ x. dropped_after_well bound id (these ++ nat_abs x ∷ []) rest)
dropped_after_well bound id these (finished place) = tt
dropped_after_well bound id these (stopped kind place) = tt
dropped_after_well bound id these over = tt
dropped_after_well bound id these lost = tt

by_step_number_well : (lim : LimitValues) (w : Word) (place : ℕ) (rest : Tokens) → ReadsWell (by_step_number lim w place rest)
by_step_number_well lim (word.Number (pos zero)) place rest = tt
by_step_number_well lim (word.Number (pos (suc n))) place rest =
    by_test (nat_le (suc n) lim.ids) (λ e. rw e (with_literals_well lim (suc n) (numbers_after limit.Vars lim.vars [] rest))) (λ e. rw e tt)
by_step_number_well lim (word.Number (negsuc n)) place rest = tt
by_step_number_well lim word.End place rest = tt
by_step_number_well lim _ place rest = tt

binary_step_at_well : (lim : LimitValues) (ts : Tokens) → ReadsWell (binary_step_at lim ts)
binary_step_at_well lim (next t rest) = by_step_number_well lim t.word t.place rest
binary_step_at_well lim (finished place) = tt
binary_step_at_well lim (stopped kind place) = tt
binary_step_at_well lim over = tt
binary_step_at_well lim lost = tt

by_byte_well : (lim : LimitValues) (w : Word) (place : ℕ) (rest : Tokens) → ReadsWell (by_byte lim w place rest)
by_byte_well lim word.Add place rest = binary_step_at_well lim rest
by_byte_well lim word.Del place rest = dropped_after_well lim.ids 0 [] rest
by_byte_well lim _ place rest = tt

binary_item_at_well : (lim : LimitValues) (ts : Tokens) → ReadsWell (binary_item_at lim ts)
unfolding binary_item_at
binary_item_at_well lim (next t rest) = by_byte_well lim t.word t.place rest
binary_item_at_well lim (finished place) = tt
binary_item_at_well lim (stopped kind place) = tt
binary_item_at_well lim over = tt
binary_item_at_well lim lost = tt

pub read_items_have_pivots : (form : Form) (lim : LimitValues) (ts rest : Tokens) (it : Item) → item_in form lim ts ≡ reads (Some it) rest → ItemHasPivot it
read_items_have_pivots Text lim ts rest it e = read_has_pivot lim ts it rest e
read_items_have_pivots Binary lim ts rest it e = subst ReadsWell e (binary_item_at_well lim ts)

-- so the items that a file spells have pivots
pub spelled_items_have_pivots : (form : Form) (lim : LimitValues) (ts : Tokens) (items : List Item) (rest : Tokens) → SpellItemsIn form lim ts items rest → HavePivots items
spelled_items_have_pivots form lim ts [] rest s = tt
spelled_items_have_pivots form lim ts (it ∷ items) rest s = (read_items_have_pivots form lim ts s.0 it s.1, spelled_items_have_pivots form lim s.0 items rest s.2)

-- a line that is read
abbrev LineReadsWell : Read MaybeLine → Type 0
LineReadsWell (reads (Some l) rest) = LineHasPivot l
LineReadsWell (reads None rest) = Unit {0}
LineReadsWell (misspells kind place) = Unit {0}
LineReadsWell (passes kind) = Unit {0}
LineReadsWell fails = Unit {0}

with_lemma_well : (n : Read NumbersTo0) → LineReadsWell (with_lemma n)
with_lemma_well (reads lits rest) = at (fault_of_literals (map literal_of lits.0))
  where
    at : (o : Option TextKind) → LineReadsWell (judged_lemma o lits.1 (lemma_of (map literal_of lits.0)) rest)
    at None = literals_have_pivot (map literal_of lits.0)
    at (Some k) = tt
with_lemma_well (misspells kind place) = tt
with_lemma_well (passes kind) = tt
with_lemma_well fails = tt

with_deletion_well : (n : Read NumbersTo0) → LineReadsWell (with_deletion n)
with_deletion_well (reads lits rest) = tt
with_deletion_well (misspells kind place) = tt
with_deletion_well (passes kind) = tt
with_deletion_well fails = tt

by_first_well : (lim : LimitValues) (w : Word) (place : ℕ) (rest whole : Tokens) → LineReadsWell (by_first lim w place rest whole)
by_first_well lim (word.Number x) place rest whole = with_lemma_well (numbers_after limit.Vars lim.vars [] whole)
by_first_well lim word.Del place rest whole = with_deletion_well (numbers_after limit.Vars lim.vars [] rest)
by_first_well lim _ place rest whole = tt

line_at_well : (lim : LimitValues) (ts : Tokens) → LineReadsWell (line_at lim ts)
unfolding line_at
line_at_well lim (next t rest) = by_first_well lim t.word t.place rest (next t rest)
line_at_well lim (finished place) = tt
line_at_well lim (stopped kind place) = tt
line_at_well lim over = tt
line_at_well lim lost = tt

line_byte_well : (lim : LimitValues) (w : Word) (place : ℕ) (rest : Tokens) → LineReadsWell (dsr.by_byte lim w place rest)
line_byte_well lim word.Add place rest = with_lemma_well (numbers_after limit.Vars lim.vars [] rest)
line_byte_well lim word.Del place rest = with_deletion_well (numbers_after limit.Vars lim.vars [] rest)
line_byte_well lim _ place rest = tt

binary_line_at_well : (lim : LimitValues) (ts : Tokens) → LineReadsWell (binary_line_at lim ts)
unfolding binary_line_at
binary_line_at_well lim (next t rest) = line_byte_well lim t.word t.place rest
binary_line_at_well lim (finished place) = tt
binary_line_at_well lim (stopped kind place) = tt
binary_line_at_well lim over = tt
binary_line_at_well lim lost = tt

pub read_lines_have_pivots : (form : Form) (lim : LimitValues) (ts rest : Tokens) (l : Line) → line_in form lim ts ≡ reads (Some l) rest → LineHasPivot l
read_lines_have_pivots Text lim ts rest l e = subst LineReadsWell e (line_at_well lim ts)
read_lines_have_pivots Binary lim ts rest l e = subst LineReadsWell e (binary_line_at_well lim ts)
