-- What is cited, and the lists of cited clauses by literal.
use Rattle.std.specs.Prelude.{ℕ, ◌==◌, ◌||◌, ◌&&◌, ◌≡◌, Bool, true, not, nat_lt, Some, List}
use Rattle.sr_base.specs.Literal.{Literal}
use Rattle.sr_model.specs.Assignment.{holds_number}
use Rattle.sr_model.specs.Substitution.{Witness, substitution, reduction}
use Rattle.sr_model.specs.Chain.{clause_of}
use Rattle.sr_table.specs.Pages.{entry, Sets}
use Rattle.sr_occurs.specs.Occurring.{KeepsNumbers, IsUnder, under}
use Rattle.sr_occurs.specs.Candidates.{is_left}
use Rattle.sr_trimming.specs.Placing.{numbers}
use Rattle.sr_load.specs.Loaded.{LoadedState, all_in, alive_in, standing_in}
use Rattle.sr_back.specs.declared.cited.CitedClauses.{CitedClauses}

-- the formula, the lines and the assumed literals stay
abbrev pub with_cited : LoadedState → List ℕ → LoadedState
with_cited st ns = record st { cited = ns }

-- these numbers are cited too, and nothing else changes
pub record CitesAll (old new : LoadedState) (ids : List ℕ) : Type 0 where
  pub same : new ≡ with_cited old new.cited
  pub cited : (n : ℕ) → holds_number n new.cited ≡ (holds_number n old.cited || holds_number n ids)

-- a number is cited, and below the next one
abbrev pub is_standing : LoadedState → ℕ → Bool
is_standing st n = holds_number n st.cited && nat_lt n (standing_in st).next

-- then its clause is alive
abbrev pub CitedAreAlive : LoadedState → Type 0
CitedAreAlive st = (n : ℕ) → is_standing st n ≡ true → holds_number n (numbers (alive_in st)) ≡ true

-- the table leads from the cited numbers that stand, and the lists have their clauses
pub record IsIndexed (st : LoadedState) (index : CitedClauses) : Type 0 where
  pub told : (n : ℕ) → not (entry index.table n == 0) ≡ is_standing st n
  pub under : (n : ℕ) (c : List Literal) → is_standing st n ≡ true → clause_of (all_in st) n ≡ Some c → IsUnder (under index.lists) n c

-- so it is once the lists are made
abbrev pub KeepsIndex : LoadedState → CitedClauses → Type 0
KeepsIndex st index = index.lists.built ≡ true → IsIndexed st index

-- a clause was entered, if the lists are made
pub record Entered (st : LoadedState) (old new : CitedClauses) (id : ℕ) : Type 0 where
  pub built : new.lists.built ≡ old.lists.built
  pub told : old.lists.built ≡ true → Sets old.table new.table id 1
  pub kept : old.lists.built ≡ true → KeepsNumbers (under old.lists) (under new.lists)
  pub under : old.lists.built ≡ true → (c : List Literal) → clause_of (all_in st) id ≡ Some c → IsUnder (under new.lists) id c

-- a lemma's line was taken back
pub record Dropped (old new : CitedClauses) (id : ℕ) : Type 0 where
  pub lists : new.lists ≡ old.lists
  pub told : old.lists.built ≡ true → Sets old.table new.table id 0

-- the cited clauses of which a witness leaves something are in a queue, which has cited ones alone
pub record Finds (st : LoadedState) (w : Witness) (queue : List ℕ) : Type 0 where
  pub standing : (n : ℕ) → holds_number n queue ≡ true → is_standing st n ≡ true
  pub left : (n : ℕ) (c : List Literal) → is_standing st n ≡ true → clause_of (all_in st) n ≡ Some c → is_left (reduction (substitution w) c) ≡ true → holds_number n queue ≡ true
