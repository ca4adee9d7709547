-- The bytes in which formulas and proofs are written.
use Rattle.std.specs.Prelude.{ℕ, zero, suc, ◌+◌, ◌-◌, ◌*◌, ◌/◌, ◌%◌, nat_lt, ℤ, pos, negsuc, neg_ℤ, List, [], ◌∷◌, ◌++◌, map, flat_map, length, slice_index_or, Option, Some, None, codes, decimal, if◌then◌else◌}
use Rattle.std.specs.Fmt.{signed_decimal}
use Rattle.sr_base.specs.Literal.{Literal, number}
use Rattle.sr_base.specs.declared.names.Form.{Form}
use Rattle.sr_base.specs.declared.names.Form.TheVariants.{Text, Binary}
use Rattle.sr_model.specs.Substitution.{Witness}
use Rattle.sr_model.specs.Meeting.{Group, Step}
use Rattle.sr_model.specs.Judging.{Item, stepped, dropped}
use Rattle.sr_model.specs.Dimacs.{Formula}
use Rattle.sr_model.specs.Dsr.{Line, lemma_line, deletion_line}

-- in text, numbers with a space after each, then `0` and the end of the line
abbrev pub spaced : List ℤ → List ℕ
spaced [] = []
spaced (x ∷ xs) = signed_decimal x ++ 32 ∷ spaced xs

abbrev pub number_line : List ℤ → List ℕ
number_line xs = spaced xs ++ codes "0\n"

-- twice the size, and one more for a negative number
abbrev pub value_for : ℤ → ℕ
value_for (pos n) = 2 * n
value_for (negsuc n) = 2 * (n + 1) + 1

-- in binary, the groups of seven bits that a value needs, the lowest first; all but the last have the top bit. There are at most so many
unfoldable pub groups_for : ℕ → ℕ → List ℕ
groups_for zero v = []
groups_for (suc most) v = if nat_lt v 128 then v ∷ [] else (v % 128 + 128) ∷ groups_for most (v / 128)

-- a value of 64 bits needs at most ten
abbrev pub number_bytes : ℤ → List ℕ
number_bytes x = groups_for 10 (value_for x)

abbrev pub number_list : List ℤ → List ℕ
number_list xs = flat_map number_bytes xs ++ 0 ∷ []

-- a literal and its image, map after map
abbrev pub flat : List (Literal × Literal) → List Literal
flat [] = []
flat (m ∷ ms) = m.0 ∷ m.1 ∷ flat ms

abbrev pub maps_written : Literal → List (Literal × Literal) → List Literal
maps_written p [] = []
maps_written p (m ∷ ms) = p ∷ flat (m ∷ ms)

abbrev pub witness_written : Option Witness → List Literal
witness_written None = []
witness_written (Some w) = w.pivot ∷ (w.assigned ++ maps_written w.pivot w.maps)

-- the literals of a clause, then the pivot and what else the witness makes true, and where it has maps, the pivot again and these
abbrev pub literals_written : List Literal → Option Witness → List ℤ
literals_written clause witness = map number (clause ++ witness_written witness)

-- a group begins with the number of its clause, negative
abbrev pub groups_written : List Group → List ℤ
groups_written [] = []
groups_written (g ∷ gs) = neg_ℤ (pos g.0) ∷ (map pos g.1 ++ groups_written gs)

abbrev pub hints_written : Step → List ℤ
hints_written s = map pos s.prefix ++ groups_written s.groups

abbrev pub step_numbers : Step → List ℤ
step_numbers s = literals_written s.clause s.witness ++ pos 0 ∷ hints_written s

-- an item of a proof by hints; in binary a deletion has no number of its own
abbrev pub item_text : Item → List ℕ
item_text (stepped s) = number_line (pos s.id ∷ step_numbers s)
item_text (dropped id ids) = decimal id ++ codes " d " ++ number_line (map pos ids)

abbrev pub item_binary : Item → List ℕ
item_binary (stepped s) = 97 ∷ number_list (pos s.id ∷ step_numbers s)
item_binary (dropped id ids) = 100 ∷ number_list (map pos ids)

abbrev pub written_item : Form → Item → List ℕ
written_item Text it = item_text it
written_item Binary it = item_binary it

abbrev pub written_items : Form → List Item → List ℕ
written_items form items = flat_map (written_item form) items

-- a line of a proof by lemmas
abbrev pub line_text : Line → List ℕ
line_text (lemma_line l) = number_line (literals_written l.clause l.witness)
line_text (deletion_line c) = codes "d " ++ number_line (map number c)

abbrev pub line_binary : Line → List ℕ
line_binary (lemma_line l) = 97 ∷ number_list (literals_written l.clause l.witness)
line_binary (deletion_line c) = 100 ∷ number_list (map number c)

abbrev pub written_line : Form → Line → List ℕ
written_line Text l = line_text l
written_line Binary l = line_binary l

abbrev pub written_lines : Form → List Line → List ℕ
written_lines form lines = flat_map (written_line form) lines

-- a formula, with its header
abbrev pub clause_lines : List (List Literal) → List ℕ
clause_lines cs = flat_map (λ c. number_line (map number c)) cs

abbrev pub written_formula : Formula → List ℕ
written_formula f = codes "p cnf " ++ decimal f.vars ++ 32 ∷ decimal (length f.clauses) ++ 10 ∷ clause_lines f.clauses

-- the clauses of these numbers
abbrev pub selected : Formula → List ℕ → Formula
selected f ids = record { vars = f.vars; clauses = map (λ n. slice_index_or f.clauses (n - 1) []) ids }
