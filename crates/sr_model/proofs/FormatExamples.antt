-- Worked examples of the formats, computed.
use Rattle.std.proofs.Common.{◌≡◌, refl, ℕ, ◌-◌, List, [], ◌∷◌, ◌++◌, Some, None}
use Rattle.std.specs.Prelude.{codes, pos, negsuc, replicate, take}
use Rattle.std.specs.Fmt.{digits}
use Rattle.sr_base.specs.Literal.{Literal, plus, minus, same}
use Rattle.sr_base.specs.Limits.{shipped}
use Rattle.sr_base.specs.declared.names.Form.{Form}
use Rattle.sr_base.specs.declared.names.Form.TheVariants.{Text, Binary}
use Rattle.sr_base.specs.declared.names.TextKind.TheVariants.{BadNumber, BadWord, Unended, TooWide, OddMap, Twice}
use Rattle.sr_base.specs.declared.names.LimitKind.TheVariants as limit
use Rattle.sr_model.specs.Judging.{Item, stepped, dropped}
use Rattle.sr_model.specs.Tokens.{finished}
use Rattle.sr_base.specs.Contents.{ended, whole}
use Rattle.sr_model.specs.Reading.{Read, reads, misspells, passes}
use Rattle.sr_model.specs.TextTokens.{spelled_from, spelled}
use Rattle.sr_model.specs.BinaryTokens.{binary_from, spelled_binary}
use Rattle.sr_model.specs.Lsr.{MaybeItem, numbers_after, dropped_after}
use Rattle.sr_model.specs.LsrBinary.{binary_item_at, item_in, item_tokens}
use Rattle.sr_model.specs.Dsr.{Line, lemma_line, deletion_line, MaybeLine, line_at, binary_line_at, line_in, line_tokens}
use Rattle.sr_model.specs.Dimacs.{Formula}
use Rattle.sr_model.specs.Writing.{groups_for, number_bytes, written_item, written_items, written_line, written_formula, selected}

abbrev lemma : List Literal → Line
lemma c = lemma_line (record { clause = c; witness = None })

-- the lemma -1 whose witness makes 1 false and 2 true and exchanges 3 and 4
abbrev exchange : Line
exchange = lemma_line (record { clause = minus 1 ∷ []; witness = Some (record { pivot = minus 1; assigned = plus 2 ∷ []; maps = (plus 3, plus 4) ∷ (plus 4, plus 3) ∷ [] }) })

abbrev read_line : Form → List ℕ → Read MaybeLine
read_line form bytes = line_in form shipped (line_tokens form shipped.bytes (whole bytes))

-- lines in text
lines_text : (read_line Text (codes "-1 -1 2 -1 3 4 4 3 0\n5 0\n") ≡ reads (Some exchange) (spelled_from ended (Some 10) (shipped.bytes - 21) 21 (codes "5 0\n")))
    × (read_line Text (codes "5 0\n") ≡ reads (Some (lemma (plus 5 ∷ []))) (finished 4))
    × (read_line Text (codes "0\n") ≡ reads (Some (lemma [])) (finished 2))
    × (read_line Text (codes "d 1 1 2 0\n") ≡ reads (Some (deletion_line (plus 1 ∷ plus 2 ∷ []))) (finished 10))
    × (read_line Text (codes "d 0\n") ≡ reads (Some (deletion_line [])) (finished 4))
    × (read_line Text (codes "c all\n") ≡ reads None (finished 6))
unfolding spelled_from numbers_after line_at same
lines_text = (refl, refl, refl, refl, refl, refl)

-- what is left behind a line and a comment
line_faults : (read_line Text (codes "-1 2 -1 -1 0\n") ≡ reads (Some (lemma_line (record { clause = minus 1 ∷ plus 2 ∷ []; witness = Some (record { pivot = minus 1; assigned = []; maps = [] }) }))) (finished 13))
    × (read_line Text (codes "1 1 -1 1 2 0\n") ≡ misspells OddMap 11)
    × (read_line Text (codes "1 1 -2 1 2 0\n") ≡ misspells OddMap 11)
    × (read_line Text (codes "1 1 -2 1 2 3 0\n") ≡ misspells Twice 13)
    × (read_line Text (codes "1 1 -1 0\n") ≡ misspells Twice 7)
    × (read_line Text (codes "-1 -1 2") ≡ misspells Unended 7)
    × (read_line Text (codes "d 1 x 0\n") ≡ misspells BadWord 4)
    × (read_line Text (codes "d d 0\n") ≡ misspells BadWord 2)
    × (read_line Text (codes "zzz\n") ≡ misspells BadWord 0)
    × (read_line Text (codes "1 1x 0\n") ≡ misspells BadNumber 2)
    × (read_line Text (codes "16777216 0\n") ≡ passes limit.Vars)
    × (line_in Text shipped (spelled 3 (whole (codes "5 0\n"))) ≡ passes limit.Bytes)
unfolding spelled_from numbers_after line_at same
line_faults = (refl, refl, refl, refl, refl, refl, refl, refl, refl, refl, refl, refl)

-- maps that send a variable to itself, and twice the same map
maps_text : (read_line Text (codes "1 1 1 3 3 0\n") ≡ reads (Some (lemma_line (record { clause = plus 1 ∷ []; witness = Some (record { pivot = plus 1; assigned = []; maps = (plus 3, plus 3) ∷ [] }) }))) (finished 12))
    × (read_line Text (codes "1 1 1 -3 1 3 -1 0\n") ≡ reads (Some (lemma_line (record { clause = plus 1 ∷ []; witness = Some (record { pivot = plus 1; assigned = []; maps = (plus 3, minus 1) ∷ [] }) }))) (finished 18))
unfolding spelled_from numbers_after line_at same
maps_text = (refl, refl)

lines_written : (written_line Text exchange ≡ codes "-1 -1 2 -1 3 4 4 3 0\n")
    × (written_line Text (lemma []) ≡ codes "0\n")
    × (written_line Text (deletion_line (plus 1 ∷ plus 2 ∷ [])) ≡ codes "d 1 2 0\n")
    × (written_line Binary exchange ≡ (0x61 ∷ 0x03 ∷ 0x03 ∷ 0x04 ∷ 0x03 ∷ 0x06 ∷ 0x08 ∷ 0x08 ∷ 0x06 ∷ 0x00 ∷ []))
    × (written_line Binary (lemma (plus 5 ∷ [])) ≡ (0x61 ∷ 0x0a ∷ 0x00 ∷ []))
    × (written_line Binary (lemma []) ≡ (0x61 ∷ 0x00 ∷ []))
    × (written_line Binary (deletion_line (plus 1 ∷ plus 2 ∷ [])) ≡ (0x64 ∷ 0x02 ∷ 0x04 ∷ 0x00 ∷ []))
unfolding groups_for digits
lines_written = (refl, refl, refl, refl, refl, refl, refl)

-- numbers of one, two and five bytes
numbers_written : (number_bytes (pos 64) ≡ (0x80 ∷ 0x01 ∷ []))
    × (number_bytes (pos 63) ≡ 126 ∷ [])
    × (number_bytes (negsuc 0) ≡ 3 ∷ [])
    × (number_bytes (negsuc 62) ≡ 127 ∷ [])
    × (number_bytes (pos 2147483647) ≡ 254 ∷ 255 ∷ 255 ∷ 255 ∷ 15 ∷ [])
unfolding groups_for
numbers_written = (refl, refl, refl, refl, refl)

-- lines in binary
lines_binary : (read_line Binary ((0x61 ∷ 0x03 ∷ 0x03 ∷ 0x04 ∷ 0x03 ∷ 0x06 ∷ 0x08 ∷ 0x08 ∷ 0x06 ∷ 0x00 ∷ []) ++ (0x61 ∷ 0x0a ∷ 0x00 ∷ [])) ≡ reads (Some exchange) (binary_from ended 1 0 (shipped.bytes - 10) 10 (0x61 ∷ 0x0a ∷ 0x00 ∷ [])))
    × (read_line Binary (0x61 ∷ 0x0a ∷ 0x00 ∷ []) ≡ reads (Some (lemma (plus 5 ∷ []))) (finished 3))
    × (read_line Binary (0x61 ∷ 0x00 ∷ []) ≡ reads (Some (lemma [])) (finished 2))
    × (read_line Binary (0x64 ∷ 0x02 ∷ 0x04 ∷ 0x00 ∷ []) ≡ reads (Some (deletion_line (plus 1 ∷ plus 2 ∷ []))) (finished 4))
    × (read_line Binary (0x61 ∷ 0x80 ∷ 0x01 ∷ 0x00 ∷ []) ≡ reads (Some (lemma (plus 64 ∷ []))) (finished 4))
    × (read_line Binary [] ≡ reads None (finished 0))
unfolding binary_from numbers_after binary_line_at same
lines_binary = (refl, refl, refl, refl, refl, refl)

-- faults in binary: no byte of an item, the value 1, the end within an item and within a number, and a variable above the limit
binary_faults : (read_line Binary (0x62 ∷ []) ≡ misspells BadWord 0)
    × (read_line Binary (0xe1 ∷ []) ≡ misspells BadWord 0)
    × (read_line Binary (0x61 ∷ 0x01 ∷ 0x00 ∷ []) ≡ misspells BadNumber 1)
    × (read_line Binary (0x61 ∷ 0x80 ∷ []) ≡ misspells Unended 2)
    × (read_line Binary (0x61 ∷ []) ≡ misspells Unended 1)
    × (read_line Binary (0x61 ∷ 0x80 ∷ 0x80 ∷ 0x80 ∷ 0x10 ∷ 0x00 ∷ []) ≡ passes limit.Vars)
    × (line_in Binary shipped (spelled_binary 1 2 (whole (0x61 ∷ 0x0a ∷ 0x00 ∷ []))) ≡ passes limit.Bytes)
    × (line_in Binary shipped (spelled_binary 1 3 (whole (0x61 ∷ 0x0a ∷ 0x00 ∷ []))) ≡ reads (Some (lemma (plus 5 ∷ []))) (finished 3))
unfolding binary_from numbers_after binary_line_at same
binary_faults = (refl, refl, refl, refl, refl, refl, refl, refl)

-- items in binary
abbrev read_item : List ℕ → Read MaybeItem
read_item bytes = item_in Binary shipped (item_tokens Binary shipped.bytes (whole bytes))

abbrev plain_step : ℕ → List Literal → List ℕ → Item
plain_step id c prefix = stepped (record { id = id; clause = c; witness = None; prefix = prefix; groups = [] })

items_binary : (read_item ((0x61 ∷ 0x0a ∷ 0x04 ∷ 0x00 ∷ 0x02 ∷ 0x04 ∷ 0x00 ∷ []) ++ (0x61 ∷ 0x0c ∷ 0x00 ∷ 0x0a ∷ 0x06 ∷ 0x08 ∷ 0x00 ∷ [])) ≡ reads (Some (plain_step 5 (plus 2 ∷ []) (1 ∷ 2 ∷ []))) (binary_from ended 2 0 (shipped.bytes - 7) 7 (0x61 ∷ 0x0c ∷ 0x00 ∷ 0x0a ∷ 0x06 ∷ 0x08 ∷ 0x00 ∷ [])))
    × (read_item (0x61 ∷ 0x0c ∷ 0x00 ∷ 0x0a ∷ 0x06 ∷ 0x08 ∷ 0x00 ∷ []) ≡ reads (Some (plain_step 6 [] (5 ∷ 3 ∷ 4 ∷ []))) (finished 7))
    × (read_item (0x61 ∷ 0x0a ∷ 0x84 ∷ 0x00 ∷ 0x00 ∷ 0x02 ∷ 0x04 ∷ 0x00 ∷ []) ≡ reads (Some (plain_step 5 (plus 2 ∷ []) (1 ∷ 2 ∷ []))) (finished 8))
    × (read_item (0x64 ∷ 0x04 ∷ 0x00 ∷ []) ≡ reads (Some (dropped 0 (2 ∷ []))) (finished 3))
    × (read_item [] ≡ reads None (finished 0))
unfolding binary_from numbers_after dropped_after binary_item_at same
items_binary = (refl, refl, refl, refl, refl)

-- numbers of steps that are none, a negative number in a deletion, and numbers that are too wide or above the limit
item_faults : (read_item (0x61 ∷ 0x00 ∷ []) ≡ misspells BadNumber 1)
    × (read_item (0x61 ∷ 0x0b ∷ []) ≡ misspells BadNumber 1)
    × (read_item (0x64 ∷ 0x02 ∷ 0x05 ∷ []) ≡ misspells BadNumber 2)
    × (read_item (0x61 ∷ replicate 10 0x80) ≡ misspells TooWide 1)
    × (read_item (0x61 ∷ (replicate 9 0x80 ++ 0x01 ∷ [])) ≡ passes limit.Ids)
    × (read_item (0x61 ∷ (replicate 9 0x80 ++ 0x02 ∷ [])) ≡ misspells TooWide 1)
    × (read_item (0x61 ∷ replicate 9 0x80) ≡ misspells Unended 10)
    × (read_item (take 3 (0x61 ∷ 0x0a ∷ 0x04 ∷ 0x00 ∷ 0x02 ∷ 0x04 ∷ 0x00 ∷ [])) ≡ misspells Unended 3)
    × (read_item (0x61 ∷ 0x0a ∷ 0x03 ∷ 0x03 ∷ 0x03 ∷ 0x06 ∷ 0x00 ∷ 0x00 ∷ []) ≡ misspells OddMap 6)
    × (item_in Binary shipped (spelled_binary 2 10 (whole (0x61 ∷ replicate 10 0x80))) ≡ passes limit.Bytes)
unfolding binary_from numbers_after dropped_after binary_item_at same
item_faults = (refl, refl, refl, refl, refl, refl, refl, refl, refl, refl)

-- the proof by the exchange of two halves, written
abbrev exchanged : List Item
exchanged =
    dropped 12 (2 ∷ [])
    ∷ stepped (record {
      id = 13;
      clause = minus 1 ∷ [];
      witness = Some (record { pivot = minus 1; assigned = plus 2 ∷ []; maps = (plus 3, plus 4) ∷ (plus 4, plus 3) ∷ [] });
      prefix = [];
      groups = (4, 3 ∷ []) ∷ (5, 9 ∷ []) ∷ (6, 10 ∷ []) ∷ (7, 11 ∷ []) ∷ (8, 12 ∷ []) ∷ (9, 5 ∷ []) ∷ (10, 6 ∷ []) ∷ (11, 7 ∷ []) ∷ (12, 8 ∷ []) ∷ [];
    })
    ∷ dropped 13 (3 ∷ 5 ∷ 6 ∷ 7 ∷ 8 ∷ [])
    ∷ plain_step 14 (plus 5 ∷ []) (13 ∷ 1 ∷ 4 ∷ 9 ∷ 10 ∷ [])
    ∷ dropped 14 (9 ∷ 10 ∷ [])
    ∷ plain_step 15 [] (13 ∷ 1 ∷ 4 ∷ 14 ∷ 11 ∷ 12 ∷ [])
    ∷ []

exchanged_text : written_items Text exchanged ≡ codes "12 d 2 0\n13 -1 -1 2 -1 3 4 4 3 0 -4 3 -5 9 -6 10 -7 11 -8 12 -9 5 -10 6 -11 7 -12 8 0\n13 d 3 5 6 7 8 0\n14 5 0 13 1 4 9 10 0\n14 d 9 10 0\n15 0 13 1 4 14 11 12 0\n"
unfolding digits
exchanged_text = refl

exchanged_binary : (take 13 (written_items Binary exchanged) ≡ (0x64 ∷ 0x04 ∷ 0x00 ∷ 0x61 ∷ 0x1a ∷ 0x03 ∷ 0x03 ∷ 0x04 ∷ 0x03 ∷ 0x06 ∷ 0x08 ∷ 0x08 ∷ 0x06 ∷ []))
    × (written_item Binary (plain_step 15 [] (13 ∷ 1 ∷ 4 ∷ 14 ∷ 11 ∷ 12 ∷ [])) ≡ (0x61 ∷ 0x1e ∷ 0x00 ∷ 0x1a ∷ 0x02 ∷ 0x08 ∷ 0x1c ∷ 0x16 ∷ 0x18 ∷ 0x00 ∷ []))
unfolding groups_for
exchanged_binary = (refl, refl)

-- a formula, and a selection of its clauses
abbrev square : Formula
square = record { vars = 2; clauses = (plus 1 ∷ plus 2 ∷ []) ∷ (minus 1 ∷ plus 2 ∷ []) ∷ (plus 1 ∷ minus 2 ∷ []) ∷ (minus 1 ∷ minus 2 ∷ []) ∷ [] }

formulas_written : (written_formula square ≡ codes "p cnf 2 4\n1 2 0\n-1 2 0\n1 -2 0\n-1 -2 0\n")
    × (written_formula (selected square (2 ∷ 4 ∷ [])) ≡ codes "p cnf 2 2\n-1 2 0\n-1 -2 0\n")
    × (written_formula (record { vars = 1; clauses = [] ∷ [] }) ≡ codes "p cnf 1 1\n0\n")
unfolding digits
formulas_written = (refl, refl, refl)
