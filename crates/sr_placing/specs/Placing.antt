-- What is deleted after which step, and what is cited of the formula.
use Rattle.std.specs.Prelude.{ℕ, ◌+◌, ◌<◌, ◌==◌, not, ◌≡◌, List, [], ◌∷◌, ◌++◌, map, drop, length, slice_index_or, slice_range}
use Rattle.sr_base.specs.Literal.{Literal}
use Rattle.sr_model.specs.Chain.{Numbered}
use Rattle.sr_model.specs.Meeting.{Step}
use Rattle.sr_model.specs.Judging.{numbered_from}
use Rattle.sr_trimming.specs.Citing.{cited_of}
use Rattle.sr_trimming.specs.Placing.{numbers, last_cited, uncited}
use Rattle.sr_steps.specs.Kept.{Kept, step_of}
use Rattle.sr_load.specs.Loaded.{LoadedState, all_lines}
use Rattle.sr_placing.specs.Marks.{numbers_where}

-- the steps that were kept of a loaded proof, with the clauses of its lemmas
abbrev pub steps_of : LoadedState → List Kept → List Step
steps_of st ks = map (step_of st.formula.clauses (all_lines st)) ks

-- the numbers of the formula's clauses that aren't cited, those of the cited ones, and for each step the numbers that it is
-- the last to cite
pub record PlacingValue : Type 0 where
  pub uncited : List ℕ
  pub core : List ℕ
  pub drops : List (List ℕ)

-- the same as it is defined over steps
abbrev pub drops_from : Numbered → List Step → List (List ℕ)
drops_from known [] = []
drops_from known (s ∷ later) = last_cited known s later ∷ drops_from (known ++ (s.id, s.clause) ∷ []) later

abbrev pub placing_of : List (List Literal) → List Step → PlacingValue
placing_of f ss = record {
  uncited = uncited f ss;
  core = numbers (cited_of (numbered_from 1 f) ss);
  drops = drops_from (numbered_from 1 f) ss;
}

-- numbers parted by marks: those of so many clauses that have none, and those that have one; and for each of so many marks
-- its numbers
pub record IsPartedBy (marks : List ℕ) (clauses most : ℕ) (p : PlacingValue) : Type 0 where
  pub uncited : p.uncited ≡ numbers_where (λ x. x == 0) 1 (slice_range marks 1 (clauses + 1))
  pub core : p.core ≡ numbers_where (λ x. not (x == 0)) 1 (slice_range marks 1 (clauses + 1))
  pub count : length p.drops ≡ most
  pub drops : (i : ℕ) → i < most → slice_index_or p.drops i [] ≡ numbers_where (λ x. x == i + 1) 1 (drop 1 marks)
