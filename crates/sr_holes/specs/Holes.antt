-- The pigeonhole principle, and its short proof by swaps of pigeons (Buss and Thapen 2019). There are the holes 1 to n and the
-- pigeons 1 to n + 1. The formula says that each pigeon sits in a hole, and that no two sit in the same one. The proof takes the
-- holes from the last one down to the second. At hole k the pigeons 1 to k + 1 and the holes 1 to k are left. Where pigeon i sits
-- in hole k and pigeon k + 1 doesn't, the two may change places; so hole k is left to pigeon k + 1.
use Rattle.std.specs.Prelude.{ℕ, ◌+◌, ◌-◌, ◌*◌, List, [], ◌∷◌, ◌++◌, map, flat_map, reverse, Some, None}
use Rattle.std.specs.List.{range_with_len}
use Rattle.sr_base.specs.Literal.{Literal, plus, minus}
use Rattle.sr_model.specs.Dimacs.{Formula}
use Rattle.sr_model.specs.Dsr.{Line, lemma_line}

-- the numbers from a to b
abbrev pub from_to : ℕ → ℕ → List ℕ
from_to a b = range_with_len a (b + 1 - a)

-- the variable that is true where pigeon p sits in hole h
abbrev pub seat : ℕ → ℕ → ℕ → ℕ
seat n p h = (p - 1) * n + h

abbrev pub in_hole : ℕ → ℕ → ℕ → Literal
in_hole n p h = plus (seat n p h)

abbrev pub not_in_hole : ℕ → ℕ → ℕ → Literal
not_in_hole n p h = minus (seat n p h)

-- pigeon p sits in a hole
abbrev pub in_some_hole : ℕ → ℕ → List Literal
in_some_hole n p = map (in_hole n p) (from_to 1 n)

-- pigeons i and j don't both sit in hole h
abbrev pub not_both : ℕ → ℕ → ℕ → ℕ → List Literal
not_both n h i j = not_in_hole n i h ∷ not_in_hole n j h ∷ []

-- pigeon i doesn't share hole h with a later pigeon
abbrev pub not_with_later : ℕ → ℕ → ℕ → List (List Literal)
not_with_later n h i = map (not_both n h i) (from_to (i + 1) (n + 1))

-- no two pigeons sit in hole h
abbrev pub at_most_one : ℕ → ℕ → List (List Literal)
at_most_one n h = flat_map (not_with_later n h) (from_to 1 n)

unfoldable pub pigeonhole_formula : ℕ → Formula
pigeonhole_formula n = record {
  vars = n * (n + 1);
  clauses = map (in_some_hole n) (from_to 1 (n + 1)) ++ flat_map (at_most_one n) (from_to 1 n);
}

-- pigeons i and j change places in hole h, where one of them sits there
abbrev pub exchange : ℕ → ℕ → ℕ → ℕ → List (Literal × Literal)
exchange n i j h = (in_hole n i h, in_hole n j h) ∷ (in_hole n j h, in_hole n i h) ∷ []

-- the same in the holes 1 to m
abbrev pub swap : ℕ → ℕ → ℕ → ℕ → List (Literal × Literal)
swap n i j m = flat_map (exchange n i j) (from_to 1 m)

-- pigeon i doesn't sit in hole k, or pigeon k + 1 does: else pigeon k + 1 gets hole k, and the two change places in the holes below
abbrev pub swap_line : ℕ → ℕ → ℕ → Line
swap_line n k i = lemma_line (record {
  clause = not_in_hole n i k ∷ in_hole n (k + 1) k ∷ [];
  witness = Some (record { pivot = not_in_hole n i k; assigned = in_hole n (k + 1) k ∷ []; maps = swap n i (k + 1) (k - 1) });
})

-- pigeon i doesn't sit in hole k
abbrev pub unit_line : ℕ → ℕ → ℕ → Line
unit_line n k i = lemma_line (record { clause = not_in_hole n i k ∷ []; witness = None })

-- so hole k is left to pigeon k + 1
abbrev pub lines_at : ℕ → ℕ → List Line
lines_at n k = map (swap_line n k) (from_to 1 k) ++ map (unit_line n k) (from_to 1 k)

unfoldable pub pigeonhole_proof : ℕ → List Line
pigeonhole_proof n = flat_map (lines_at n) (reverse (from_to 2 n))
