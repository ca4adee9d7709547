-- The list of entries and its tables.
use Rattle.std.specs.Prelude.{ℕ, suc, ◌≡◌, ◌≢◌, ◌<◌, ◌≤◌, ◌+◌, ◌*◌, ◌==◌, Bool, true, false, cond, List, [], ◌∷◌, ◌++◌, length, take, slice_index_or}
use Rattle.sr_model.specs.Substitution.{has_pair}
use Rattle.std.specs.Prelude.{◌-◌}
use Rattle.sr_base.specs.Literal.{Literal, plus, complement, variable, same, has, literal_code, NoRepeats}
use Rattle.sr_base.specs.declared.literal.TheConstants.{MOST_VARS}
use Rattle.sr_watch.specs.State.{assumed_in, AreWithin}
use Rattle.sr_watch.specs.Inside.{derived_in}

-- the greatest variable that has room, and for each entry its literal and its reason, 0 for one that is
-- assumed
pub record Entries : Type 0 where
  pub vars : ℕ
  pub lits : List Literal
  pub reasons : List ℕ

-- one more than the place where a literal comes first, or 0
abbrev pub place_in : List Literal → Literal → ℕ
place_in [] l = 0
place_in (k ∷ ks) l = cond (same k l) 1 (cond (place_in ks l == 0) 0 (suc (place_in ks l)))

abbrev pub assumed_of : Entries → List Literal
assumed_of e = assumed_in e.lits e.reasons

-- one entry more
abbrev pub with_entry : Entries → Literal → ℕ → Entries
with_entry e l r = record e { lits = e.lits ++ l ∷ []; reasons = e.reasons ++ r ∷ [] }

-- the first entries alone
abbrev pub first_entries : Entries → ℕ → Entries
first_entries e n = record e { lits = take n e.lits; reasons = take n e.reasons }

-- a literal may be assumed once, and derived where it isn't true
pub record MayEnter (e : Entries) (l : Literal) (r : ℕ) : Type 0 where
  pub within : variable l ≤ e.vars
  pub not_assumed : r ≡ 0 → has l (assumed_of e) ≡ false
  pub not_true : r ≢ 0 → has l e.lits ≡ false

-- what holds of all lists of entries
pub record AreEntries (e : Entries) : Type 0 where
  pub fits : e.vars ≤ MOST_VARS
  pub sizes : length e.reasons ≡ length e.lits
  pub within : AreWithin e.vars e.lits
  pub once : NoRepeats (assumed_of e)
  pub derived_once : NoRepeats (derived_in e.lits e.reasons)

-- an entry for each code of the variables' literals, and none where there is no variable
abbrev pub table_size : ℕ → ℕ
table_size v = cond (v == 0) 0 (2 * v + 2)

-- the tables say for each literal where it comes first, and whether it is assumed
pub record AreTables (e : Entries) (firsts : List ℕ) (assumptions : List Bool) : Type 0 where
  pub first_size : length firsts ≡ table_size e.vars
  pub marks_size : length assumptions ≡ table_size e.vars
  pub first : (l : Literal) → 0 < variable l → variable l ≤ e.vars → slice_index_or firsts (literal_code l) 0 ≡ place_in e.lits l
  pub marks : (l : Literal) → 0 < variable l → variable l ≤ e.vars
      → slice_index_or assumptions (literal_code l) false ≡ has l (assumed_of e)

-- a place's complement comes before it, and none earlier does
pub record IsPairAt (ls : List Literal) (n : ℕ) : Type 0 where
  pub within : n < length ls
  pub complement : has (complement (slice_index_or ls n (plus 0))) (take n ls) ≡ true
  pub none_before : has_pair (take n ls) ≡ false

-- 0 where no literal comes with its complement, and else one more than the first place whose complement comes
-- before it
pub record IsClashAt (ls : List Literal) (n : ℕ) : Type 0 where
  pub none : n ≡ 0 → has_pair ls ≡ false
  pub some : 0 < n → IsPairAt ls (n - 1)

-- 0 where no literal and its complement are assumed, and else one more than the first place whose literal is assumed after
-- its complement was
pub record IsAssumedPairAt (ls : List Literal) (rs : List ℕ) (n : ℕ) : Type 0 where
  pub within : n ≤ length ls
  pub none : n ≡ 0 → has_pair (assumed_in ls rs) ≡ false
  pub some : 0 < n → has_pair (assumed_in (take n ls) (take n rs)) ≡ true
  pub none_before : 0 < n → has_pair (assumed_in (take (n - 1) ls) (take (n - 1) rs)) ≡ false

-- how many entries come before the first assumed one
abbrev pub root_length : List ℕ → ℕ
root_length [] = 0
root_length (r ∷ rs) = cond (r == 0) 0 (suc (root_length rs))
