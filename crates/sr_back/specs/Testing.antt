-- The test of a lemma: what is assumed, its witness, and what one clause tells.
use Rattle.std.specs.Prelude.{ℕ, true, false, ◌≡◌, Option, Some, None, List, ◌++◌, All}
use Rattle.sr_base.specs.Literal.{Literal, NoRepeats, SameSet}
use Rattle.sr_model.specs.Assignment.{holds_number}
use Rattle.sr_model.specs.Refutation.{Refutes}
use Rattle.sr_model.specs.Substitution.{Substitution, Witness}
use Rattle.sr_model.specs.Chain.{clauses}
use Rattle.sr_model.specs.Meeting.{Step}
use Rattle.sr_steps.specs.Kept.{Kept, step_of}
use Rattle.sr_trimming.specs.Citing.{is_cited}
use Rattle.sr_trimming.specs.Lean.{is_lean, group_start, needs_group}
use Rattle.sr_trimming.specs.CoreFirst.{IsCoreFirst}
use Rattle.sr_trimming.specs.Loading.{at_start}
use Rattle.sr_trimming.specs.From.{Place, place_of, witness_of}
use Rattle.sr_trimming.specs.Evidence.{assumed}
use Rattle.sr_load.specs.Loaded.{LoadedState, all_lines, all_in, alive_in, cited_alive, standing_in}
use Rattle.sr_back.specs.declared.testing.Trial.{Trial}
use Rattle.sr_back.specs.declared.testing.Trial.TheVariants.{Spare, Met, Stuck}
use Rattle.sr_back.specs.Citing.{CitedAreAlive}
use Rattle.std.specs.Prelude.{map}

-- the literals are assumed too, and nothing else changes
abbrev pub assuming_all : LoadedState → List Literal → LoadedState
assuming_all st ls = record st { assumed = st.assumed ++ ls }

abbrev pub with_assumed : LoadedState → List Literal → LoadedState
with_assumed st ls = record st { assumed = ls }

-- the lemma of a number
abbrev pub place_in : LoadedState → ℕ → Option Place
place_in st n = place_of (at_start st.formula.clauses) (all_lines st) n

-- the steps of what is kept
abbrev pub steps_in : LoadedState → List Kept → List Step
steps_in st ks = map (step_of st.formula.clauses (all_lines st)) ks

-- a lemma's witness, which is written or stands beside it
pub record HasWitness (st : LoadedState) (id : ℕ) (own : Option Witness) : Type 0 where
  pub place : Place
  pub is_place : place_in st id ≡ Some place
  pub witness : Witness
  pub is_witness : witness_of place.stated ≡ Some witness
  pub written : own ≡ None → place.stated.witness ≡ Some witness
  pub beside : (w : Witness) → own ≡ Some w → w ≡ witness

-- it is the witness of the lemma
abbrev pub IsWitnessOf : LoadedState → ℕ → Witness → Type 0
IsWitnessOf st id w = (p : Place) → place_in st id ≡ Some p → witness_of p.stated ≡ Some w

-- a chain over the alive clauses that is lean from a set; over the cited ones where these suffice
pub record IsChainFrom (st : LoadedState) (a : List Literal) (hints : List ℕ) : Type 0 where
  pub lean : is_lean (alive_in st) a hints ≡ true
  pub core_first : IsCoreFirst (cited_alive st) a hints

-- what a clause tells: it needs no group; or it needs one, and has this chain or none
abbrev pub Tells : LoadedState → List Literal → Substitution → List Literal → List ℕ → Trial → Type 0
Tells st b w c hints Spare = needs_group b w c ≡ false
Tells st b w c hints Met = (needs_group b w c ≡ true) × IsChainFrom st (group_start b w c) hints
Tells st b w c hints Stuck = (needs_group b w c ≡ true) × (¬ Refutes (clauses (alive_in st)) (group_start b w c))

-- a lemma is tested: its line was taken back, the complements of its literals are assumed, and what is cited is cited by the
-- steps that are kept
pub record IsTested (st : LoadedState) (id : ℕ) (kept : List Kept) (p : Place) : Type 0 where
  pub is_place : place_in st id ≡ Some p
  pub alive : p.alive ≡ alive_in st
  pub number : id ≡ (standing_in st).next
  pub from : SameSet st.assumed (assumed p)
  pub cites : (n : ℕ) → holds_number n st.cited ≡ is_cited n (steps_in st kept)
  pub cited_alive : CitedAreAlive st
  pub distinct : All NoRepeats (clauses (all_in st))
