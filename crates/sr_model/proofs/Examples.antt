-- Worked examples, computed.
use Rattle.std.proofs.Common.{◌≡◌, refl, ℕ, zero, suc, true, false, List, [], ◌∷◌, ◌++◌, Some, None}
use Rattle.std.specs.Prelude.{codes, pos, negsuc, Ok, Err}
use Rattle.sr_base.specs.Literal.{Literal, plus, minus, same}
use Rattle.sr_base.specs.Limits.{shipped, limits_of}
use Rattle.sr_base.specs.declared.names.Cause.TheVariants.{NotNew, DeadHint, NotUnit, Unclosed, GroupUnclosed, HintAfter, GroupSpare, GroupTwice, DeadDrop}
use Rattle.sr_base.specs.declared.names.TextKind.TheVariants.{BadNumber, BadWord, Unended, TooWide, NoHeader, AboveHeader, WrongCount, OddMap, Twice}
use Rattle.sr_base.specs.declared.names.LimitKind.TheVariants as limit
use Rattle.sr_model.specs.declared.verdict.Verdict.TheVariants.{Going, Verified, Rejected}
use Rattle.sr_model.specs.declared.tokens.Word.TheVariants as word
use Rattle.sr_model.specs.Substitution.{Witness, untouched, satisfied, left, reduction, substitution}
use Rattle.sr_model.specs.Meeting.{Group}
use Rattle.sr_model.specs.Judging.{Item, stepped, dropped, judge}
use Rattle.sr_model.specs.Words.{said_by}
use Rattle.sr_model.specs.Tokens.{Tokens, finished, lost, next}
use Rattle.sr_model.specs.TextTokens.{spelled_from, spelled}
use Rattle.sr_base.specs.Contents.{Contents, ended, failed, whole}
use Rattle.sr_model.specs.Reading.{Read, reads, misspells, passes, fails}
use Rattle.sr_model.specs.Dimacs.{Formula, clauses_from, formula_at}
use Rattle.sr_model.specs.Lsr.{MaybeItem, numbers_after, dropped_after, item_at}

-- the four clauses on two variables
abbrev square : List (List Literal)
square = (plus 1 ∷ plus 2 ∷ []) ∷ (minus 1 ∷ plus 2 ∷ []) ∷ (plus 1 ∷ minus 2 ∷ []) ∷ (minus 1 ∷ minus 2 ∷ []) ∷ []

abbrev plain_step : ℕ → List Literal → List ℕ → List Group → Item
plain_step id c prefix groups = stepped (record { id = id; clause = c; witness = None; prefix = prefix; groups = groups })

-- the unit clause 2, under the number 5
abbrev five : List ℕ → List Group → Item
five prefix groups = plain_step 5 (plus 2 ∷ []) prefix groups

abbrev six : Item
six = plain_step 6 [] (5 ∷ 3 ∷ 4 ∷ []) []

verified : (judge false square (five (1 ∷ 2 ∷ []) [] ∷ six ∷ []) ≡ Verified) × (judge true square (five (1 ∷ 2 ∷ []) [] ∷ six ∷ []) ≡ Verified)
unfolding same
verified = (refl, refl)

-- neither 1 nor -2 has its complement among -2
not_unit : judge false square (five (3 ∷ []) [] ∷ []) ≡ Rejected 5 (NotUnit 3)
unfolding same
not_unit = refl

-- the prefix reaches -1, and making 2 true leaves 1 of the third clause, which has no group
group_unclosed : judge false square (five (2 ∷ []) [] ∷ []) ≡ Rejected 5 (GroupUnclosed 3)
unfolding same
group_unclosed = refl

-- a step that touches no clause is met
touches_none : judge true ((plus 1 ∷ plus 2 ∷ []) ∷ []) (plain_step 2 (plus 3 ∷ []) [] [] ∷ []) ≡ Going
unfolding same
touches_none = refl

-- the formula that holds the empty clause
empty_at_once : judge true ([] ∷ []) [] ≡ Verified
empty_at_once = refl

dead_hint : judge false square (dropped 4 (1 ∷ []) ∷ five (1 ∷ 2 ∷ []) [] ∷ []) ≡ Rejected 5 (DeadHint 1)
unfolding same
dead_hint = refl

not_new : judge false square (plain_step 4 (plus 2 ∷ []) (1 ∷ 2 ∷ []) [] ∷ []) ≡ Rejected 4 NotNew
not_new = refl

empty_unclosed : judge false square (plain_step 5 [] [] [] ∷ []) ≡ Rejected 5 Unclosed
unfolding same
empty_unclosed = refl

-- what strict checking alone refuses
hint_after : (judge true square (five (1 ∷ 2 ∷ 3 ∷ []) [] ∷ []) ≡ Rejected 5 (HintAfter 3)) × (judge false square (five (1 ∷ 2 ∷ 3 ∷ []) [] ∷ []) ≡ Going)
unfolding same
hint_after = (refl, refl)

spare_of_prefix : (judge true square (five (1 ∷ 2 ∷ []) ((3, 1 ∷ []) ∷ []) ∷ []) ≡ Rejected 5 (GroupSpare 3)) × (judge false square (five (1 ∷ 2 ∷ []) ((3, 1 ∷ []) ∷ []) ∷ []) ≡ Going)
unfolding same
spare_of_prefix = (refl, refl)

dead_drop : (judge true square (dropped 5 (9 ∷ []) ∷ []) ≡ Rejected 5 (DeadDrop 9)) × (judge true square (dropped 5 (1 ∷ 1 ∷ []) ∷ []) ≡ Rejected 5 (DeadDrop 1)) × (judge false square (dropped 5 (9 ∷ 1 ∷ 1 ∷ []) ∷ []) ≡ Going)
unfolding same
dead_drop = (refl, refl, refl)

-- two halves that are exchanged: 3 and 4 stand for the same clauses on 5 and 6
abbrev three : Literal → Literal → Literal → List Literal
three k l m = k ∷ l ∷ m ∷ []

abbrev twins : List (List Literal)
twins =
    (plus 1 ∷ plus 2 ∷ []) ∷ (minus 1 ∷ minus 2 ∷ []) ∷ (minus 1 ∷ plus 3 ∷ []) ∷ (minus 2 ∷ plus 4 ∷ [])
    ∷ three (minus 3) (plus 5) (plus 6) ∷ three (minus 3) (plus 5) (minus 6) ∷ three (minus 3) (minus 5) (plus 6) ∷ three (minus 3) (minus 5) (minus 6)
    ∷ three (minus 4) (plus 5) (plus 6) ∷ three (minus 4) (plus 5) (minus 6) ∷ three (minus 4) (minus 5) (plus 6) ∷ three (minus 4) (minus 5) (minus 6) ∷ []

abbrev exchange : Witness
exchange = record { pivot = minus 1; assigned = plus 2 ∷ []; maps = (plus 3, plus 4) ∷ (plus 4, plus 3) ∷ [] }

-- a clause with a true image, one of which a literal is left, one that is renamed, and one that isn't touched
reductions : (reduction (substitution exchange) (plus 1 ∷ plus 2 ∷ []) ≡ satisfied)
    × (reduction (substitution exchange) (minus 2 ∷ plus 4 ∷ []) ≡ left (plus 3 ∷ []))
    × (reduction (substitution exchange) (three (minus 3) (plus 5) (plus 6)) ≡ left (three (minus 4) (plus 5) (plus 6)))
    × (reduction (substitution exchange) (plus 5 ∷ minus 6 ∷ []) ≡ untouched)
unfolding same
reductions = (refl, refl, refl, refl)

-- the proof by the exchange, with these groups in place of the one for clause 5
abbrev exchanged : List Group → List Item
exchanged groups =
    dropped 12 (2 ∷ [])
    ∷ stepped (record {
      id = 13;
      clause = minus 1 ∷ [];
      witness = Some exchange;
      prefix = [];
      groups = (4, 3 ∷ []) ∷ (groups ++ (6, 10 ∷ []) ∷ (7, 11 ∷ []) ∷ (8, 12 ∷ []) ∷ (9, 5 ∷ []) ∷ (10, 6 ∷ []) ∷ (11, 7 ∷ []) ∷ (12, 8 ∷ []) ∷ []);
    })
    ∷ dropped 13 (3 ∷ 5 ∷ 6 ∷ 7 ∷ 8 ∷ [])
    ∷ plain_step 14 (plus 5 ∷ []) (13 ∷ 1 ∷ 4 ∷ 9 ∷ 10 ∷ []) []
    ∷ dropped 14 (9 ∷ 10 ∷ [])
    ∷ plain_step 15 [] (13 ∷ 1 ∷ 4 ∷ 14 ∷ 11 ∷ 12 ∷ []) []
    ∷ []

exchange_verified : (judge false twins (exchanged ((5, 9 ∷ []) ∷ [])) ≡ Verified) × (judge true twins (exchanged ((5, 9 ∷ []) ∷ [])) ≡ Verified)
unfolding same
exchange_verified = (refl, refl)

exchange_unclosed : judge false twins (exchanged []) ≡ Rejected 13 (GroupUnclosed 5)
unfolding same
exchange_unclosed = refl

-- a second group for a clause is passed over, even with a number that no clause has
exchange_twice : (judge false twins (exchanged ((5, 9 ∷ []) ∷ (5, 99 ∷ []) ∷ [])) ≡ Verified) × (judge true twins (exchanged ((5, 9 ∷ []) ∷ (5, 9 ∷ []) ∷ [])) ≡ Rejected 13 (GroupTwice 5))
unfolding same
exchange_twice = (refl, refl)

-- a group for a clause that is satisfied
exchange_spare : (judge true twins (exchanged ((1, 3 ∷ []) ∷ (5, 9 ∷ []) ∷ [])) ≡ Rejected 13 (GroupSpare 1)) × (judge false twins (exchanged ((1, 3 ∷ []) ∷ (5, 9 ∷ []) ∷ [])) ≡ Verified)
unfolding same
exchange_spare = (refl, refl)

-- words
numbers_and_words : (said_by (codes "007") ≡ Ok (word.Number (pos 7)))
    × (said_by (codes "-12") ≡ Ok (word.Number (negsuc 11)))
    × (said_by (codes "-00") ≡ Err BadNumber)
    × (said_by (codes "1x") ≡ Err BadNumber)
    × (said_by (codes "9223372036854775807") ≡ Ok (word.Number (pos 9223372036854775807)))
    × (said_by (codes "9223372036854775808") ≡ Err TooWide)
    × (said_by (codes "cnf") ≡ Ok word.Cnf)
    × (said_by (codes "dd") ≡ Ok word.Other)
numbers_and_words = (refl, refl, refl, refl, refl, refl, refl, refl)

-- formulas
abbrev formula_of : List ℕ → Read Formula
formula_of text = formula_at shipped (spelled shipped.bytes (whole text))

square_text : formula_of (codes "p cnf 2 4\n1 2 0\n-1 2 0\n1 -2 0\n-1 -2 0\n") ≡ reads (record { vars = 2; clauses = square }) (finished 38)
unfolding spelled_from clauses_from same
square_text = refl

-- ends of lines of two bytes, a comment, and what follows the formula
square_text_dressed : formula_of (codes "c four clauses\np cnf 2 4\r\n1 2 0\r\n-1 2 0\r\n1 -2 0\r\n-1 -2 0\r\n%\n0\n") ≡ reads (record { vars = 2; clauses = square }) (next (record { place = 60; word = word.Number (pos 0) }) (finished 62))
unfolding spelled_from clauses_from same
square_text_dressed = refl

-- a comment inside a clause, a clause over two lines, and a repeated literal
loose_text : formula_of (codes "p cnf 3 1\n1 3\n c inside 2 0\n1 -2 0") ≡ reads (record { vars = 3; clauses = three (plus 1) (plus 3) (minus 2) ∷ [] }) (finished 34)
unfolding spelled_from clauses_from same
loose_text = refl

formula_faults : (formula_of (codes "p cnf 1 1\n2 0\n") ≡ misspells AboveHeader 10)
    × (formula_of (codes "p cnf 1 2\n1 0\n") ≡ misspells WrongCount 14)
    × (formula_of (codes "p cnf 1 1\n1 0\n-1 0\n") ≡ misspells WrongCount 14)
    × (formula_of (codes "1 0\n") ≡ misspells NoHeader 0)
    × (formula_of [] ≡ misspells NoHeader 0)
    × (formula_of (codes "p cnf 1 1\n1") ≡ misspells Unended 11)
    × (formula_of (codes "p cnf 1 1\n1x 0\n") ≡ misspells BadNumber 10)
    × (formula_of (codes "p cnf 1 1\n99999999999999999999 0\n") ≡ misspells TooWide 10)
unfolding spelled_from clauses_from same
formula_faults = (refl, refl, refl, refl, refl, refl, refl, refl)

-- in the header: `cnf` at the front of a line begins a comment, and malformed tokens in the place of the two words
header_faults : (formula_of (codes "p\ncnf 2 4\n") ≡ misspells Unended 10)
    × (formula_of (codes "-0 cnf 2 4\n") ≡ misspells NoHeader 0)
    × (formula_of (codes "p 2x 2 4\n") ≡ misspells NoHeader 2)
    × (formula_of (codes "p cnf -2 4\n") ≡ misspells BadNumber 6)
    × (formula_of (codes "p cnf 2 d\n") ≡ misspells BadWord 8)
    × (formula_of (codes "p cnf 1 1\n1 % 0\n") ≡ misspells BadWord 12)
    × (formula_of (codes "p cnf 1 1\n%\n") ≡ misspells WrongCount 10)
    × (formula_of (codes "p cnf 1 0\n-0\n") ≡ misspells WrongCount 10)
unfolding spelled_from clauses_from same
header_faults = (refl, refl, refl, refl, refl, refl, refl, refl)

abbrev square_bytes : List ℕ
square_bytes = codes "p cnf 2 4\n1 2 0\n-1 2 0\n1 -2 0\n-1 -2 0\n"

-- an empty clause
empty_text : formula_of (codes "p cnf 0 1\n0\n") ≡ reads (record { vars = 0; clauses = [] ∷ [] }) (finished 12)
unfolding spelled_from clauses_from same
empty_text = refl

-- what a file gives before a read of it fails
abbrev broken : List ℕ → Contents
broken bytes = record { bytes = bytes; ending = failed }

-- a failed read comes at its place: a fault before it comes first, a token that it may have cut is none, and after `%` no read is due
formula_fails : (formula_at shipped (spelled 100 (broken (codes "p cnf 1 1\n1 0"))) ≡ fails)
    × (formula_at shipped (spelled 100 (broken (codes "p cnf 1 1\n2"))) ≡ fails)
    × (formula_at shipped (spelled 100 (broken (codes "p cnf 1 1\n2 "))) ≡ misspells AboveHeader 10)
    × (formula_at shipped (spelled 100 (broken (codes "p cnf 1 0\n% "))) ≡ reads (record { vars = 1; clauses = [] }) lost)
    × (formula_at shipped (spelled 10 (broken (codes "p cnf 1 0\n"))) ≡ fails)
    × (formula_at shipped (spelled 9 (broken (codes "p cnf 1 0\n"))) ≡ passes limit.Bytes)
unfolding spelled_from clauses_from same
formula_fails = (refl, refl, refl, refl, refl, refl)

-- limits: the bytes of a file, numbers of clauses, and variables
formula_limits : (formula_at shipped (spelled 37 (whole square_bytes)) ≡ passes limit.Bytes)
    × (formula_at shipped (spelled 38 (whole square_bytes)) ≡ reads (record { vars = 2; clauses = square }) (finished 38))
    × (formula_at (limits_of 2 4 100 100) (spelled 100 (whole square_bytes)) ≡ passes limit.Ids)
    × (formula_at (limits_of 1 5 100 100) (spelled 100 (whole square_bytes)) ≡ passes limit.Vars)
unfolding spelled_from clauses_from same
formula_limits = (refl, refl, refl, refl)

-- items
abbrev read_item : List ℕ → Read MaybeItem
read_item text = item_at shipped (spelled shipped.bytes (whole text))

item_faults : (read_item (codes "5 2 d 0\n") ≡ misspells BadWord 4)
    × (read_item (codes "5 d -1 0\n") ≡ misspells BadNumber 4)
    × (read_item (codes "0 2 0 0\n") ≡ misspells BadNumber 0)
    × (read_item (codes "x\n") ≡ misspells BadWord 0)
    × (read_item (codes "5 1 1 -2 1 2 1 0 0\n") ≡ misspells Twice 15)
    × (read_item (codes "5 1 1 -2 1 2 0 0\n") ≡ misspells OddMap 13)
    × (read_item (codes "5 2 0 1") ≡ misspells Unended 7)
    × (read_item (codes " \n c nothing") ≡ reads None (finished 12))
unfolding spelled_from numbers_after dropped_after item_at same
item_faults = (refl, refl, refl, refl, refl, refl, refl, refl)

-- an id of 0 is judged after the next token, and before that one's limit
id_faults : (read_item (codes "0 x\n") ≡ misspells BadWord 2)
    × (read_item (codes "0 1x\n") ≡ misspells BadNumber 2)
    × (read_item (codes "0") ≡ misspells Unended 1)
    × (read_item (codes "0 99999999 0 0\n") ≡ misspells BadNumber 0)
    × (read_item (codes "0 d 0\n") ≡ reads (Some (dropped 0 [])) (finished 6))
    × (read_item (codes "-99999999999 d 0\n") ≡ misspells BadNumber 0)
    × (read_item (codes "99999999999 d 0\n") ≡ passes limit.Ids)
    × (item_at (limits_of 2 9 100 100) (spelled 100 (whole (codes "5 3 0 0\n"))) ≡ passes limit.Vars)
unfolding spelled_from numbers_after dropped_after item_at same
id_faults = (refl, refl, refl, refl, refl, refl, refl, refl)

-- what is left of a line that tokens stand before is no comment
behind_tokens : (item_at shipped (spelled_from ended (Some 32) 100 7 (codes "c 5 0 0\n")) ≡ misspells BadWord 7) × (item_at shipped (spelled_from ended (Some 10) 100 7 (codes "c 5 0 0\n")) ≡ reads None (finished 15))
unfolding spelled_from item_at
behind_tokens = (refl, refl)

-- the items at the front, at most so many
abbrev front : ℕ → Tokens → List Item
front zero ts = []
front (suc n) ts = elim (item_at shipped ts) [ reads o rest ↦ elim o [ Some it ↦ it ∷ front n rest | None ↦ [] ] | misspells kind place ↦ [] | passes kind ↦ [] | fails ↦ [] ]

square_proof_text : front 3 (spelled shipped.bytes (whole (codes "c proof\n5 2 0 1 2 0\n6 0 5 3 4 0\n"))) ≡ five (1 ∷ 2 ∷ []) [] ∷ six ∷ []
unfolding spelled_from numbers_after dropped_after item_at same
square_proof_text = refl

exchanged_text : front 7 (spelled shipped.bytes (whole (codes "12 d 2 0\n13 -1 -1 2 -1 3 4 4 3 0 -4 3 -5 9 -6 10 -7 11 -8 12 -9 5 -10 6 -11 7 -12 8 0\n13 d 3 5 6 7 8 0\n14 5 0 13 1 4 9 10 0\n14 d 9 10 0\n15 0 13 1 4 14 11 12 0\n"))) ≡ exchanged ((5, 9 ∷ []) ∷ [])
unfolding spelled_from numbers_after dropped_after item_at same
exchanged_text = refl
