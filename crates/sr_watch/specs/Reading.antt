-- How often propagation reads clauses: at most once for each literal of a clause that becomes false.
use Rattle.std.specs.Prelude.{ℕ, ◌+◌, Bool, cond, ◌&&◌, List, [], ◌∷◌, ◌++◌, take, drop, sum_by, count_by}
use Rattle.sr_base.specs.Literal.{Literal, complement, has}
use Rattle.sr_arena.specs.Cells.{Cell, Memory}
use Rattle.sr_watch.specs.declared.parts.Part.{Part}
use Rattle.sr_watch.specs.State.{State, clauses_of}
use Rattle.sr_watch.specs.Watching.{is_short, is_on}

-- a clause of a side holds a literal
abbrev pub holds_on : Bool → Literal → Cell → Bool
holds_on core k c = is_on core c && has k c.lits

-- how many clauses of a side hold a literal
abbrev pub holders : Bool → Memory → Literal → ℕ
holders core m k = count_by (holds_on core k) m.cells

-- a clause of a side has at most one literal
abbrev pub is_short_on : Bool → Cell → Bool
is_short_on core c = is_on core c && is_short c.lits

-- how many clauses of a side have at most one literal
abbrev pub shorts : Bool → Memory → ℕ
shorts core m = count_by (is_short_on core) m.cells

-- what a function says of the complements of literals that come after others, each where it comes first
abbrev pub falls : (Literal → ℕ) → List Literal → List Literal → ℕ
falls h before [] = 0
falls h before (l ∷ ls) = cond (has l before) 0 (h (complement l)) + falls h (before ++ l ∷ []) ls

-- the same of the entries from a place on
abbrev pub falls_from : (Literal → ℕ) → List Literal → ℕ → ℕ
falls_from h trail from = falls h (take from trail) (drop from trail)

-- how many literals of a clause are false
abbrev pub false_in : List Literal → List Literal → ℕ
false_in trail c = count_by (λ k. has (complement k) trail) c

-- the most that one propagation reads clauses, by what it leaves: once for each literal of a clause of the part that is false,
-- once for each of these clauses that has at most one literal, and twice more
abbrev pub most_reads : Part → State → ℕ
most_reads p s = sum_by (false_in s.lits) (clauses_of s p) + count_by is_short (clauses_of s p) + 2
