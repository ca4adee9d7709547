-- What contracts see of a loaded proof.
use Rattle.std.specs.Prelude.{ℕ, Bool, true, false, ◌≡◌, ◌≤◌, Option, Some, None, List, [], ◌∷◌, ◌++◌, All, filter}
use Rattle.sr_base.specs.Literal.{Literal, NoRepeats}
use Rattle.sr_model.specs.Assignment.{holds_number}
use Rattle.sr_model.specs.Refutation.{Refutes}
use Rattle.sr_model.specs.Substitution.{Witness, IsPivot}
use Rattle.sr_model.specs.Chain.{Numbered, clauses, clause_of}
use Rattle.sr_model.specs.Dimacs.{Formula}
use Rattle.sr_model.specs.Dsr.{Lemma}
use Rattle.sr_trimming.specs.Reordered.{IsReordered}
use Rattle.sr_trimming.specs.Loading.{Done, joined, removed, passed, Standing, at_start, after_all, at_conflict, StopsAfter}
use Rattle.sr_trimming.specs.Lean.{is_lean}
use Rattle.sr_trimming.specs.CoreFirst.{IsCoreFirst}
use Rattle.sr_trimming.specs.From.{all_loaded, Place, place_of, LemmasHavePivots}

-- the formula, what the lines that stand did, what those taken back did, the numbers that are cited, and the literals that
-- are assumed
pub record LoadedState : Type 0 where
  pub formula : Formula
  pub standing : List Done
  pub undone : List Done
  pub cited : List ℕ
  pub assumed : List Literal

abbrev pub all_lines : LoadedState → List Done
all_lines st = st.standing ++ st.undone

-- the clauses of the formula and of all lemmas, under their numbers
abbrev pub all_in : LoadedState → Numbered
all_in st = all_loaded st.formula.clauses (all_lines st)

abbrev pub standing_in : LoadedState → Standing
standing_in st = after_all (at_start st.formula.clauses) st.standing

-- the number after those of all lemmas
abbrev pub next_of : LoadedState → ℕ
next_of st = (after_all (at_start st.formula.clauses) (all_lines st)).next

-- the clauses alive before the lines that were taken back
abbrev pub alive_in : LoadedState → Numbered
alive_in st = (standing_in st).alive

-- of them those whose numbers are cited
abbrev pub cited_alive : LoadedState → Numbered
cited_alive st = filter (λ p. holds_number p.0 st.cited) (alive_in st)

-- as it is after loading
pub record IsLoaded (st : LoadedState) : Type 0 where
  pub stops : StopsAfter (at_start st.formula.clauses) st.standing at_conflict
  pub none_undone : st.undone ≡ []
  pub none_cited : st.cited ≡ []
  pub none_assumed : st.assumed ≡ []
  pub pivots : LemmasHavePivots st.standing
  pub distinct : All NoRepeats (clauses (all_in st))
  -- clause numbers have 31 bits
  pub small : next_of st ≤ 2147483647

-- one number more is cited
abbrev pub citing : LoadedState → ℕ → LoadedState
citing st n = record st { cited = st.cited ++ n ∷ [] }

-- one literal more is assumed
abbrev pub assuming : LoadedState → Literal → LoadedState
assuming st l = record st { assumed = st.assumed ++ l ∷ [] }

-- the pivot of the lemma of a number
abbrev pub HasPivotAt : LoadedState → ℕ → Literal → Type 0
HasPivotAt st n l = (p : Place) → place_of (at_start st.formula.clauses) (all_lines st) n ≡ Some p → IsPivot l p.stated.clause

-- the witness that is written for it
abbrev pub HasWitnessAt : LoadedState → ℕ → Option Witness → Type 0
HasWitnessAt st n w = (p : Place) → place_of (at_start st.formula.clauses) (all_lines st) n ≡ Some p → p.stated.witness ≡ w

-- the clause of a number, in any order
abbrev pub HasClauseAt : LoadedState → ℕ → List Literal → Type 0
HasClauseAt st n c = (d : List Literal) → clause_of (all_in st) n ≡ Some d → IsReordered d c

abbrev pub joins_none : List Done → Bool
joins_none [] = true
joins_none (joined l ∷ ds) = false
joins_none (removed k ∷ ds) = joins_none ds
joins_none (passed ∷ ds) = joins_none ds

-- lines were taken back to before a lemma's
pub record TookBack (old new : LoadedState) (id : ℕ) : Type 0 where
  pub stated : Lemma
  pub rest : List Done
  pub stood : old.standing ≡ new.standing ++ joined stated ∷ rest
  pub undone : new.undone ≡ joined stated ∷ rest ++ old.undone
  pub no_lemma : joins_none rest ≡ true
  pub number : id ≡ (standing_in new).next
  pub same : new ≡ record old { standing = new.standing; undone = new.undone }

-- no lemma's line stood
pub record TookAll (old new : LoadedState) : Type 0 where
  pub standing : new.standing ≡ []
  pub undone : new.undone ≡ old.standing ++ old.undone
  pub no_lemma : joins_none old.standing ≡ true
  pub same : new ≡ record old { standing = new.standing; undone = new.undone }

abbrev pub TakesBack : LoadedState → LoadedState → Option ℕ → Type 0
TakesBack old new None = TookAll old new
TakesBack old new (Some id) = TookBack old new id

-- a lean chain over the alive clauses; over the cited ones where these suffice
pub record IsChain (st : LoadedState) (hints : List ℕ) : Type 0 where
  pub lean : is_lean (alive_in st) st.assumed hints ≡ true
  pub core_first : IsCoreFirst (cited_alive st) st.assumed hints

-- whether the alive clauses refute what is assumed, and a chain where they do
abbrev pub Tests : LoadedState → Bool → List ℕ → Type 0
Tests st false hints = (¬ Refutes (clauses (alive_in st)) st.assumed) × (hints ≡ [])
Tests st true hints = IsChain st hints
