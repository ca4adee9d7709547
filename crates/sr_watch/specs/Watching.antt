-- Two watched literals. The first two literals of a clause of two or more are its watches, and shorter clauses have none.
-- Clauses are a function from references to literals.
use Rattle.std.specs.Prelude.{ℕ, ◌==◌, Bool, true, false, not, cond, ◌||◌, ◌&&◌, ◌+◌, ◌≤◌, ◌≡◌, ◌≢◌, List, [], ◌∷◌, sum_by, count_by}
use Rattle.sr_base.specs.Literal.{Literal, plus, variable, complement, same, has, literal_code}
use Rattle.sr_arena.specs.Cells.{Cell, Memory, cell_at}
use Rattle.sr_lists.specs.declared.blocks.Watch.{Watch}
use Rattle.sr_lists.specs.Family.{Family, list_at}
use Rattle.sr_model.specs.Refutation.{is_empty}

-- whether a literal is one of the clause's watches
abbrev pub is_watch : List Literal → Literal → Bool
is_watch [] k = false
is_watch (x ∷ []) k = false
is_watch (x ∷ y ∷ c) k = same x k || same y k

-- the watch beside the one given
abbrev pub other_watch : List Literal → Literal → Literal
other_watch [] w = plus 0
other_watch (x ∷ []) w = x
other_watch (x ∷ y ∷ c) w = cond (same x w) y x

-- a literal of the clause is in the list
pub record SomeTrue (trues c : List Literal) : Type 0 where
  pub literal : Literal
  pub of_clause : has literal c ≡ true
  pub is_true : has literal trues ≡ true

-- where a watch is made false by the first list, a literal of the clause is made true by the second
abbrev pub IsGuarded : List Literal → List Literal → List Literal → Type 0
IsGuarded falsifiers trues c = (k : Literal) → is_watch c k ≡ true → has (complement k) falsifiers ≡ true → SomeTrue trues c

-- the same of each clause
abbrev pub AreGuarded : List Literal → List Literal → (ℕ → List Literal) → Type 0
AreGuarded falsifiers trues cs = (r : ℕ) → IsGuarded falsifiers trues (cs r)

-- all literals but one are false
pub record IsStuck (trail c : List Literal) : Type 0 where
  pub left : Literal
  pub others : (k : Literal) → has k c ≡ true → k ≢ left → has (complement k) trail ≡ true

-- the list of a literal; the first two lists are those of the clauses that have no watches
abbrev pub key_of : Literal → ℕ
key_of l = literal_code l + 2

-- a clause is attached to the core, or to the rest
abbrev pub is_on : Bool → Cell → Bool
is_on core c = c.marked && cond core c.flagged (not c.flagged)

abbrev pub on_side : Bool → Memory → ℕ → Bool
on_side core m r = is_on core (cell_at m r)

-- the clause of a reference where it is attached to the core or to the rest, and else the empty one
abbrev pub clause_on : Bool → Memory → ℕ → List Literal
clause_on core m r = cond (on_side core m r) (cell_at m r).lits []

-- a clause of at most one literal
abbrev pub is_short : List Literal → Bool
is_short [] = true
is_short (x ∷ []) = true
is_short (x ∷ y ∷ c) = false

-- whether a watch is of a clause
abbrev pub is_of : ℕ → Watch → Bool
is_of r w = w.at == r

-- how often the list of a key has a clause
abbrev pub times : Family → ℕ → ℕ → ℕ
times f r key = count_by (is_of r) (list_at f key)

-- how often the list of a literal has a clause
abbrev pub listed : Family → ℕ → Literal → ℕ
listed f r k = times f r (key_of k)

-- how many of the watches are of a clause
abbrev pub left_of : List Watch → ℕ → ℕ
left_of ws r = count_by (is_of r) ws

-- how many watches of all lists, and of those that are left of one, pass a test
abbrev pub tally : Family → List Watch → (Watch → Bool) → ℕ
tally f left p = sum_by (count_by p) f.lists + count_by p left

-- no watch of the clause was listed since it was attached last: for the core it isn't flagged, for the rest it
-- is neither marked nor flagged
abbrev pub is_unlisted : Bool → Cell → Bool
is_unlisted core c = not c.held || (not c.flagged && (core || not c.marked))

-- a watch's first look isn't at a literal of its clause, nor at the first variable where the clause has no literal
abbrev pub is_stray : Memory → Watch → Bool
is_stray m w = not (has w.blocker (cell_at m w.at).lits) && not (is_empty (cell_at m w.at).lits && (variable w.blocker == 1))

-- the watches in the lists and those that are left: at most two for each clause, each with a literal of it, and none for a
-- clause that was never listed
pub record AreStocked (core : Bool) (m : Memory) (f : Family) (left : List Watch) : Type 0 where
  pub few : (r : ℕ) → tally f left (is_of r) ≤ 2
  pub clean : (r : ℕ) → is_unlisted core (cell_at m r) ≡ true → tally f left (is_of r) ≡ 0
  pub blockers : tally f left (is_stray m) ≡ 0

-- each attached clause is once in the lists of its two watches
abbrev pub AreLinked : Bool → Memory → Family → Type 0
AreLinked core m f = (r : ℕ) (k : Literal) → on_side core m r ≡ true → listed f r k ≡ cond (is_watch (clause_on core m r) k) 1 0
