-- What a compaction does: held clauses move close together and get new references.
use Rattle.std.specs.Prelude.{ℕ, ◌+◌, ◌<◌, ◌≡◌, ◌==◌, true, false, cond, List, [], ◌∷◌, length, slice_index_or}
use Rattle.std.specs.List.Sorted.{IsNonDecreasingBy}
use Rattle.sr_arena.specs.declared.moves.Move.{Move}
use Rattle.sr_arena.specs.Cells.{Cell, gone, weights, held_in, Memory, cell_at, IsHeld, held_cells}

-- the new reference of an old one, 0 for none
abbrev pub moved_to : List Move → ℕ → ℕ
moved_to [] at = 0
moved_to (m ∷ ms) at = cond (m.from == at) m.to (moved_to ms at)

-- the old references rise
abbrev pub AreRising : List Move → Type 0
AreRising ms = IsNonDecreasingBy (λ m. m.from) ms

-- the words of a clause: two and its literals
abbrev pub words_of : Cell → ℕ
words_of c = cond c.held (length c.lits + 2) 0

abbrev pub words_in : List Cell → ℕ
words_in [] = 0
words_in (c ∷ cs) = words_of c + words_in cs

-- the moves of the held clauses among cells that begin at a reference, where the first of them moves to another one
abbrev pub moves_from : ℕ → ℕ → List Cell → List Move
moves_from from to [] = []
moves_from from to (c ∷ cs) =
    cond c.held (record { from = from; to = to } ∷ moves_from (from + 1) (to + words_of c) cs) (moves_from (from + 1) to cs)

-- all moves of a memory
abbrev pub moves_of : List Cell → List Move
moves_of cs = moves_from 0 2 cs

-- the held cells of one list stand in another in the same order, under these references
pub record IsMoved (old new : List Cell) (ms : List Move) : Type 0 where
  pub moves : (at : ℕ) → (slice_index_or old at gone).held ≡ true → slice_index_or new (moved_to ms at) gone ≡ slice_index_or old at gone
  pub some : (at : ℕ) → (slice_index_or old at gone).held ≡ true → 0 < moved_to ms at
  pub none : (at : ℕ) → (slice_index_or old at gone).held ≡ false → moved_to ms at ≡ 0
  pub rising : (a b : ℕ) → a < b → (slice_index_or old a gone).held ≡ true → (slice_index_or old b gone).held ≡ true
      → moved_to ms a < moved_to ms b
  pub image : (k : ℕ) → (slice_index_or new k gone).held ≡ true
      → (at : ℕ) × (((slice_index_or old at gone).held ≡ true) × (moved_to ms at ≡ k))
  pub held : weights new ≡ weights old
  pub order : held_in new ≡ held_in old

-- the new memory is the old one, compacted, and the map has the new references
pub record IsCompacted (old new : Memory) (ms : List Move) : Type 0 where
  -- a held clause keeps its literals, its number, its mark and its flag
  pub moves : (at : ℕ) → IsHeld old at → cell_at new (moved_to ms at) ≡ cell_at old at
  -- it has a new reference
  pub some : (at : ℕ) → IsHeld old at → 0 < moved_to ms at
  -- what wasn't held has none
  pub none : (at : ℕ) → (cell_at old at).held ≡ false → moved_to ms at ≡ 0
  -- references keep their order, so no two clauses get one
  pub rising : (a b : ℕ) → a < b → IsHeld old a → IsHeld old b → moved_to ms a < moved_to ms b
  -- nothing else is held
  pub image : (k : ℕ) → IsHeld new k → (at : ℕ) × (IsHeld old at × (moved_to ms at ≡ k))
  pub held : held_cells new ≡ held_cells old
  pub order : held_in new.cells ≡ held_in old.cells
  -- only held clauses take cells
  pub used : new.used ≡ held_cells new
  pub most : new.most ≡ old.most

-- the same held clauses in the same order, and nothing else takes cells
pub record IsPacked (old new : Memory) : Type 0 where
  pub order : held_in new.cells ≡ held_in old.cells
  pub none : (cell_at new 0).held ≡ false
  pub held : held_cells new ≡ held_cells old
  pub used : new.used ≡ held_cells new
  pub most : new.most ≡ old.most
