-- The witness of a step that is read has the clause's first literal as its pivot.
use Rattle.std.proofs.Common.{◌≡◌, ℕ, zero, suc, List, [], ◌∷◌, Option, Some, None, sym, ap, subst}
use Rattle.std.specs.Prelude.{ℤ, pos, negsuc, nat_le, nat_abs, ◌==◌, ◌++◌, option_map, map}
use Rattle.sr_base.specs.Literal.{Literal, literal_of}
use Rattle.sr_base.specs.Limits.{LimitValues}
use Rattle.sr_base.specs.declared.names.TextKind.{TextKind}
use Rattle.sr_base.specs.declared.names.LimitKind.TheVariants as limit
use Rattle.sr_model.specs.declared.tokens.Word.{Word}
use Rattle.sr_model.specs.declared.tokens.Word.TheVariants as word
use Rattle.sr_model.specs.Substitution.{Witness, IsPivot}
use Rattle.sr_model.specs.Meeting.{HasPivot}
use Rattle.sr_model.specs.Judging.{Item, stepped, ItemHasPivot, HavePivots}
use Rattle.sr_model.specs.Tokens.{Tokens, finished, stopped, over, lost, next}
use Rattle.sr_model.specs.Reading.{Read, reads, misspells, passes, fails}
use Rattle.sr_model.specs.Witnesses.{before, after, maps_of, witness_by, clause_of_literals, witness_of_literals, fault_of_literals}
use Rattle.sr_model.specs.Lsr.{NumbersTo0, numbers_after, step_of, MaybeItem, judged_step, with_hints, with_literals, by_dropped, dropped_by_word, dropped_after, by_kind, kind_at, by_id, item_at, SpellItems}
use Rattle.sr_model.proofs.Soundness.{by_test}

pub literals_have_pivot : (lits : List Literal) (w : Witness) → witness_of_literals lits ≡ Some w → IsPivot w.pivot (clause_of_literals lits)
literals_have_pivot [] w e = absurd cc
literals_have_pivot (p ∷ rest) w e = at (after p rest) e
  where
    at : (o : Option (List Literal)) → option_map (λ w. witness_by p (before p w) (maps_of (after p w))) o ≡ Some w → w.pivot ≡ p
    at None e = absurd cc
    at (Some ls) e = let is : witness_by p (before p ls) (maps_of (after p ls)) ≡ w = cc in sym (ap (λ v. v.pivot) is)

pub step_has_pivot : (id : ℕ) (lits : List Literal) (hints : List ℤ) → HasPivot (step_of id lits hints)
step_has_pivot id lits hints w e = literals_have_pivot lits w e

-- an item that is read
abbrev ReadsWell : Read MaybeItem → Type 0
ReadsWell (reads (Some it) rest) = ItemHasPivot it
ReadsWell (reads None rest) = Unit {0}
ReadsWell (misspells kind place) = Unit {0}
ReadsWell (passes kind) = Unit {0}
ReadsWell fails = Unit {0}

with_hints_well : (id : ℕ) (lits : List Literal) (place : ℕ) (n : Read NumbersTo0) → ReadsWell (with_hints id lits place n)
with_hints_well id lits place (reads hints rest) = at (fault_of_literals lits)
  where
    at : (o : Option TextKind) → ReadsWell (judged_step o place (stepped (step_of id lits hints.0)) rest)
    at None = step_has_pivot id lits hints.0
    at (Some k) = tt
with_hints_well id lits place (misspells kind at) = tt
with_hints_well id lits place (passes kind) = tt
with_hints_well id lits place fails = tt

with_literals_well : (lim : LimitValues) (id : ℕ) (n : Read NumbersTo0) → ReadsWell (with_literals lim id n)
with_literals_well lim id (reads lits rest) = with_hints_well id (map literal_of lits.0) lits.1 (numbers_after limit.Ids lim.ids [] rest)
with_literals_well lim id (misspells kind place) = tt
with_literals_well lim id (passes kind) = tt
with_literals_well lim id fails = tt

by_dropped_well : (bound id : ℕ) (x : ℤ) (place : ℕ) (these : List ℕ) (rest : Tokens) (more : Read MaybeItem) → ReadsWell more → ReadsWell (by_dropped bound id x place these rest more)
by_dropped_well bound id (pos zero) place these rest more r = tt
by_dropped_well bound id (pos (suc n)) place these rest more r = by_test (nat_le (suc n) bound) (λ e. rw e r) (λ e. rw e tt)
by_dropped_well bound id (negsuc n) place these rest more r = tt

dropped_by_word_well : (bound id : ℕ) (w : Word) (place : ℕ) (these : List ℕ) (rest : Tokens) (more : ℤ → Read MaybeItem) → ((x : ℤ) → ReadsWell (more x)) → ReadsWell (dropped_by_word bound id w place these rest more)
dropped_by_word_well bound id (word.Number x) place these rest more r = by_dropped_well bound id x place these rest (more x) (r x)
dropped_by_word_well bound id word.Add place these rest more r = tt
dropped_by_word_well bound id word.Del place these rest more r = tt
dropped_by_word_well bound id word.Header place these rest more r = tt
dropped_by_word_well bound id word.Cnf place these rest more r = tt
dropped_by_word_well bound id word.Percent place these rest more r = tt
dropped_by_word_well bound id word.Other place these rest more r = tt
dropped_by_word_well bound id word.End place these rest more r = tt

dropped_after_well : (bound id : ℕ) (these : List ℕ) (ts : Tokens) → ReadsWell (dropped_after bound id these ts)
unfolding dropped_after
dropped_after_well bound id these (next t rest) = dropped_by_word_well bound id t.word t.place these rest (λ x. dropped_after bound id (these ++ nat_abs x ∷ []) rest) (λ x. dropped_after_well bound id (these ++ nat_abs x ∷ []) rest)
dropped_after_well bound id these (finished place) = tt
dropped_after_well bound id these (stopped kind place) = tt
dropped_after_well bound id these over = tt
dropped_after_well bound id these lost = tt

by_kind_well : (lim : LimitValues) (id at : ℕ) (w : Word) (place : ℕ) (rest whole : Tokens) → ReadsWell (by_kind lim id at w place rest whole)
by_kind_well lim id at (word.Number x) place rest whole = by_test (id == 0) (λ e. rw e tt) (λ e. rw e (with_literals_well lim id (numbers_after limit.Vars lim.vars [] whole)))
by_kind_well lim id at word.Add place rest whole = tt
by_kind_well lim id at word.Del place rest whole = dropped_after_well lim.ids id [] rest
by_kind_well lim id at word.Header place rest whole = tt
by_kind_well lim id at word.Cnf place rest whole = tt
by_kind_well lim id at word.Percent place rest whole = tt
by_kind_well lim id at word.Other place rest whole = tt
by_kind_well lim id at word.End place rest whole = tt

kind_at_well : (lim : LimitValues) (id at : ℕ) (ts : Tokens) → ReadsWell (kind_at lim id at ts)
kind_at_well lim id at (next t rest) = by_kind_well lim id at t.word t.place rest (next t rest)
kind_at_well lim id at (finished place) = tt
kind_at_well lim id at (stopped kind place) = tt
kind_at_well lim id at over = tt
kind_at_well lim id at lost = tt

by_id_well : (lim : LimitValues) (w : Word) (place : ℕ) (rest : Tokens) → ReadsWell (by_id lim w place rest)
by_id_well lim (word.Number (pos n)) place rest = by_test (nat_le n lim.ids) (λ e. rw e (kind_at_well lim n place rest)) (λ e. rw e tt)
by_id_well lim (word.Number (negsuc n)) place rest = tt
by_id_well lim word.Add place rest = tt
by_id_well lim word.Del place rest = tt
by_id_well lim word.Header place rest = tt
by_id_well lim word.Cnf place rest = tt
by_id_well lim word.Percent place rest = tt
by_id_well lim word.Other place rest = tt
by_id_well lim word.End place rest = tt

item_at_well : (lim : LimitValues) (ts : Tokens) → ReadsWell (item_at lim ts)
unfolding item_at
item_at_well lim (next t rest) = by_id_well lim t.word t.place rest
item_at_well lim (finished place) = tt
item_at_well lim (stopped kind place) = tt
item_at_well lim over = tt
item_at_well lim lost = tt

pub read_has_pivot : (lim : LimitValues) (ts : Tokens) (it : Item) (rest : Tokens) → item_at lim ts ≡ reads (Some it) rest → ItemHasPivot it
read_has_pivot lim ts it rest e = subst ReadsWell e (item_at_well lim ts)

-- so the items that a file spells have pivots
pub spelled_have_pivots : (lim : LimitValues) (ts : Tokens) (items : List Item) (rest : Tokens) → SpellItems lim ts items rest → HavePivots items
spelled_have_pivots lim ts [] rest s = tt
spelled_have_pivots lim ts (it ∷ items) rest s = (read_has_pivot lim ts it s.0 s.1, spelled_have_pivots lim s.0 items rest s.2)
