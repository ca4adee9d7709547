-- A list of literals with a table that tells which are false, which has a place for each code below a bound.
use Rattle.std.specs.Prelude.{ℕ, ◌+◌, ◌*◌, ◌<◌, Bool, false, not, ◌≡◌, List, [], ◌∷◌, ◌++◌, map, slice_index_or}
use Rattle.sr_base.specs.Literal.{Literal, variable, complement, literal_code, has}
use Rattle.sr_model.specs.Substitution.{has_pair}
use Rattle.sr_check.specs.declared.trail.Added.{Added}

-- the literals in order, and how many codes have a place
pub record TrailValue : Type 0 where
  pub lits : List Literal
  pub room : ℕ

-- there are places for a literal and for its complement
abbrev pub Covers : ℕ → Literal → Type 0
Covers room l = 2 * variable l + 1 < room

abbrev pub CoversAll : ℕ → List Literal → Type 0
CoversAll room [] = Unit {0}
CoversAll room (l ∷ ls) = Covers room l × CoversAll room ls

abbrev pub CoversClauses : ℕ → List (List Literal) → Type 0
CoversClauses room [] = Unit {0}
CoversClauses room (c ∷ cs) = CoversAll room c × CoversClauses room cs

abbrev pub lits_of : List Added → List Literal
lits_of ts = map (λ t. t.lit) ts

-- whether the table is set at a code; it isn't past its end
abbrev pub table_at : List Bool → ℕ → Bool
table_at table n = slice_index_or table n false

-- it is set at a literal where its complement is in the list
abbrev pub IsTableOf : List Bool → List Literal → Type 0
IsTableOf table ls = (l : Literal) → table_at table (literal_code l) ≡ has (complement l) ls

-- the second table is set where the first one is
abbrev pub KeepsTable : List Bool → List Bool → Type 0
KeepsTable old new = (n : ℕ) → table_at new n ≡ table_at old n

-- each literal is known for new where it is in none of the lists before it
abbrev pub AreNew : List Literal → List Added → Type 0
AreNew ls [] = Unit {0}
AreNew ls (t ∷ ts) = (t.is_new ≡ not (has t.lit ls)) × AreNew (ls ++ t.lit ∷ []) ts

pub record IsTrail (table : List Bool) (trail : List Added) (pair : Bool) : Type 0 where
  pub tabled : IsTableOf table (lits_of trail)
  pub news : AreNew [] trail
  pub pair_is : pair ≡ has_pair (lits_of trail)
