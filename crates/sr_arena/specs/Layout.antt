-- How clauses lie in one region of words: before a clause's literals stand two words, its number, and its size with three
-- bits below it.
use Rattle.std.specs.Prelude.{ℕ, zero, suc, ◌+◌, ◌-◌, ◌/◌, ◌%◌, ◌<◌, ◌≤◌, ◌==◌, Bool, cond, List, [], ◌∷◌, ◌++◌, length, take, map, slice_index_or, slice_set, Vec, vec_len, vec_capacity}
use Rattle.std.specs.declared.alloc.Global.{Global}
use Rattle.sr_base.specs.Words.{literal_in, IsLiteral}
use Rattle.sr_base.specs.declared.words.Word.{Word}
use Rattle.sr_arena.specs.Cells.{Cell, gone, held_cell, weight}

-- the second word: how many literals follow, and three bits
abbrev pub size_of : Word → ℕ
size_of w = w.code / 8

abbrev pub is_marked : Word → Bool
is_marked w = w.code % 2 == 1

abbrev pub is_flagged : Word → Bool
is_flagged w = w.code / 2 % 2 == 1

abbrev pub is_freed : Word → Bool
is_freed w = w.code / 4 % 2 == 1

-- the cell of a clause
abbrev pub clause : Word → Word → List Word → Cell
clause number size ws = cond (is_freed size) gone (held_cell (map literal_in ws) number.code (is_marked size) (is_flagged size))

-- the cells of the references after each word, where so many words are still a clause's literals
abbrev pub cells_from : ℕ → List Word → List Cell
cells_from left [] = []
cells_from (suc left) (w ∷ ws) = gone ∷ cells_from left ws
cells_from zero (number ∷ []) = gone ∷ []
cells_from zero (number ∷ size ∷ ws) = gone ∷ clause number size (take (size_of size) ws) ∷ cells_from (size_of size) ws

-- the region is walked by its sizes, ends where a clause ends, and has literals where it should
abbrev pub IsWalk : ℕ → List Word → Type 0
IsWalk zero [] = Unit {0}
IsWalk (suc left) [] = ⊥
IsWalk (suc left) (w ∷ ws) = IsLiteral w × IsWalk left ws
IsWalk zero (number ∷ []) = ⊥
IsWalk zero (number ∷ size ∷ ws) = IsWalk (size_of size) ws

-- what the region holds: cells by reference, the cells of 32 bits that are counted for it, and the words for which there is
-- room
pub record Laid : Type 0 where
  pub cells : List Cell
  pub used : ℕ
  pub room : ℕ

-- a reference is the place of a clause's first literal, so 0 is none
abbrev pub cells_of : List Word → List Cell
cells_of ls = gone ∷ cells_from 0 ls

-- the words for which a list has room
abbrev pub room_of : Vec Word Global → ℕ
room_of ws = vec_capacity ws - vec_len ws

abbrev pub laid_of : List Word → ℕ → ℕ → Laid
laid_of ls used room = record { cells = cells_of ls; used = used; room = room }

pub record IsLaid (ls : List Word) (used : ℕ) : Type 0 where
  pub walk : IsWalk 0 ls
  pub within : length ls ≤ used
  pub room : used < 4294967296

abbrev pub laid_at : Laid → ℕ → Cell
laid_at m at = slice_index_or m.cells at gone

-- another cell stands under a reference
abbrev pub lay : Laid → ℕ → Cell → Laid
lay m at c = record m { cells = slice_set m.cells at c }

abbrev pub gones : ℕ → List Cell
gones zero = []
gones (suc n) = gone ∷ gones n

-- one more cell after a word, and before its literals
abbrev pub with_cell : Laid → Cell → ℕ → Laid
with_cell m c room = record { cells = m.cells ++ (gone ∷ c ∷ gones (length c.lits)); used = m.used + weight c; room = room }
