-- How the live clauses are stored: in a clause memory that holds them with their numbers, with a table that leads from the
-- numbers to references.
use Rattle.std.specs.Prelude.{ℕ, ◌+◌, ◌*◌, ◌≤◌, ◌==◌, ◌≡◌, ◌≢◌, Bool, false, cond, List, [], ◌∷◌, ◌++◌, length, map, Option, Some, None, not, ◌&&◌}
use Rattle.std.specs.Borrow.{Bor}
use Rattle.sr_base.specs.Literal.{Literal}
use Rattle.sr_base.specs.declared.limits.TheConstants.{MOST_CELLS}
use Rattle.sr_model.specs.Assignment.{holds_number}
use Rattle.sr_model.specs.Chain.{Numbered, clause_of}
use Rattle.sr_model.specs.Judging.{clause_cells}
use Rattle.sr_arena.specs.Cells.{Memory, Cell, cell_at, IsHeld, held_in, held_cells}
use Rattle.sr_table.specs.Pages.{Paged, entry, IsOpen}

-- what contracts see of the storage: the live clauses under their numbers, the greatest number so far, the most cells that
-- may be held, and the cells that are used
pub record Stored : Type 0 where
  pub clauses : Numbered
  pub last : ℕ
  pub most : ℕ
  pub used : ℕ

-- a clause is added at the end
abbrev pub with_last : Stored → ℕ → List Literal → Stored
with_last s id lits = record s { clauses = s.clauses ++ (id, lits) ∷ []; last = id; used = s.used + clause_cells lits }

-- the held clauses among cells, under their numbers
abbrev pub numbered_in : List Cell → Numbered
numbered_in cs = map (λ c. (c.number, c.lits)) (held_in cs)

-- the clauses that a memory holds, in the order in which they were added
abbrev pub live_of : Memory → Numbered
live_of mem = numbered_in mem.cells

-- the clause that a number leads to
abbrev pub clause_at : Memory → Paged → ℕ → Option (List Literal)
clause_at mem table n = cond (entry table n == 0) None (Some (cell_at mem (entry table n)).lits)

-- no number comes twice
abbrev pub AreApart : Numbered → Type 0
AreApart [] = Unit {0}
AreApart (p ∷ ps) = (clause_of ps p.0 ≡ None) × AreApart ps

-- the clause that a walk comes to
abbrev pub taken : Option (ℕ × Bor (List Literal)) → Numbered
taken None = []
taken (Some p) = (p.0, p.1.now) ∷ []

-- the table leads from the number of each held clause to it, and from no other number
pub record IsLinked (mem : Memory) (table : Paged) : Type 0 where
  pub leads : (n : ℕ) → entry table n ≢ 0 → IsHeld mem (entry table n)
  pub back : (n : ℕ) → entry table n ≢ 0 → (cell_at mem (entry table n)).number ≡ n
  pub led : (at : ℕ) → IsHeld mem at → entry table (cell_at mem at).number ≡ at
  pub none : (cell_at mem 0).held ≡ false

-- the clause of a number is marked, or it isn't
abbrev pub IsMarked : Memory → Paged → ℕ → Bool → Type 0
IsMarked mem table n b = (cell_at mem (entry table n)).marked ≡ b

abbrev pub AreUnmarked : Memory → Paged → Type 0
AreUnmarked mem table = (n : ℕ) → entry table n ≢ 0 → IsMarked mem table n false

-- the marks of the clauses of numbers are taken away, and no others
abbrev pub Unmarks : Memory → Memory → Paged → List ℕ → Type 0
Unmarks old new table ids =
    (n : ℕ) (b : Bool) → entry table n ≢ 0 → IsMarked old table n b → IsMarked new table n (b && not (holds_number n ids))

-- the table leads from numbers to their clauses
abbrev pub LeadsTo : Memory → Paged → Numbered → Type 0
LeadsTo mem table live = (n : ℕ) → clause_of live n ≡ clause_at mem table n

-- the table has a page for each number
abbrev pub AreOpen : Paged → Numbered → Type 0
AreOpen table [] = Unit {0}
AreOpen table (p ∷ ps) = IsOpen table p.0 × AreOpen table ps

-- a table leads from numbers of live clauses alone
abbrev pub LeadsLive : Paged → Numbered → Type 0
LeadsLive table live = (n : ℕ) → entry table n ≢ 0 → clause_of live n ≢ None

-- what the storage keeps
pub record KeepsStored (mem : Memory) (table : Paged) (last most : ℕ) : Type 0 where
  pub linked : IsLinked mem table
  pub unmarked : AreUnmarked mem table
  pub low : (n : ℕ) → entry table n ≢ 0 → n ≤ last
  pub limit : mem.most ≡ most
  pub bound : most ≤ MOST_CELLS
  -- so many entries as the cells in use account for, at 1,024 a cell, and one page
  pub pages : length table.entries ≤ 1024 * mem.used + 4096

-- the clauses stay, and their marks may change
pub record KeepsClauses (old new : Memory) : Type 0 where
  pub held : (at : ℕ) → (cell_at new at).held ≡ (cell_at old at).held
  pub lits : (at : ℕ) → (cell_at new at).lits ≡ (cell_at old at).lits
  pub number : (at : ℕ) → (cell_at new at).number ≡ (cell_at old at).number
  pub live : live_of new ≡ live_of old
  pub cells : held_cells new ≡ held_cells old
  pub used : new.used ≡ old.used
  pub most : new.most ≡ old.most

-- the clauses that a memory holds are the live ones, each once, and no others: the references tell which is which
pub record HoldsLive (mem : Memory) (live : Numbered) : Type 0 where
  -- the reference of a number
  pub reference : ℕ → ℕ
  -- each live clause is held under the reference of its number
  pub holds : (n : ℕ) (c : List Literal) → clause_of live n ≡ Some c → IsHeld mem (reference n) × ((cell_at mem (reference n)).lits ≡ c)
  -- two live clauses have two references
  pub alone : (m n : ℕ) (c d : List Literal) → clause_of live m ≡ Some c → clause_of live n ≡ Some d → reference m ≡ reference n → m ≡ n
  -- each held clause is that of a live number
  pub led : (at : ℕ) → IsHeld mem at → (n : ℕ) × ((reference n ≡ at) × (clause_of live n ≡ Some (cell_at mem at).lits))
  -- no number comes twice
  pub apart : AreApart live
