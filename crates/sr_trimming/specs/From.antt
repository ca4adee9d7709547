-- Steps that come from the lemmas of a proof.
use Rattle.std.specs.Prelude.{ℕ, Bool, ◌+◌, ◌==◌, true, ◌≡◌, ◌⊎◌, ◌↔◌, cond, Option, Some, None, List, [], ◌∷◌, ◌++◌, length}
use Rattle.sr_base.specs.Literal.{Literal}
use Rattle.sr_model.specs.Assignment.{holds_number}
use Rattle.sr_model.specs.Substitution.{Witness}
use Rattle.sr_model.specs.Redundancy.{Rup}
use Rattle.sr_model.specs.Chain.{Numbered, clauses}
use Rattle.sr_model.specs.Meeting.{Step}
use Rattle.sr_model.specs.Judging.{numbered_from}
use Rattle.sr_model.specs.Dsr.{Lemma, Line, lemma_line, LineHasPivot}
use Rattle.sr_trimming.specs.Citing.{cites}
use Rattle.sr_trimming.specs.Placing.{numbers}
use Rattle.sr_trimming.specs.Reordered.{IsRewritten}
use Rattle.sr_trimming.specs.Backward.{StepsHavePivots}
use Rattle.sr_trimming.specs.Loading.{Done, joined, removed, passed, Standing, at_start, after_done, after_all, at_conflict, Loads}

-- the clauses of a formula and of all lemmas, under their numbers
abbrev pub numbered_lemmas : ℕ → List Done → Numbered
numbered_lemmas n [] = []
numbered_lemmas n (joined l ∷ ds) = (n, l.clause) ∷ numbered_lemmas (n + 1) ds
numbered_lemmas n (removed k ∷ ds) = numbered_lemmas n ds
numbered_lemmas n (passed ∷ ds) = numbered_lemmas n ds

abbrev pub all_loaded : List (List Literal) → List Done → Numbered
all_loaded f ds = numbered_from 1 f ++ numbered_lemmas (length f + 1) ds

-- the lemma of a number, with what is alive before its line
pub record Place : Type 0 where
  pub alive : Numbered
  pub stated : Lemma

abbrev pub place_of : Standing → List Done → ℕ → Option Place
place_of st [] n = None
place_of st (joined l ∷ ds) n = cond (st.next == n) (Some (record { alive = st.alive; stated = l })) (place_of (after_done st (joined l)) ds n)
place_of st (removed k ∷ ds) n = place_of (after_done st (removed k)) ds n
place_of st (passed ∷ ds) n = place_of st ds n

-- what a step cites is alive
abbrev pub CitesAlive : Numbered → Step → Type 0
CitesAlive live s = (n : ℕ) → cites n s ≡ true → holds_number n (numbers live) ≡ true

-- the witness that is written for a lemma; where it has none, the one whose one effect is to make the first literal true
abbrev pub witness_of : Lemma → Option Witness
witness_of l = elim l.witness [ Some w ↦ Some w | None ↦ elim l.clause [ [] ↦ None | k ∷ ks ↦ Some (record { pivot = k; assigned = []; maps = [] }) ] ]

-- the step of a lemma: its clause is the lemma's, in any order after the first literal; it has no witness exactly where
-- propagation suffices, and else the lemma's
pub record IsStepOf (s : Step) (p : Place) : Type 0 where
  pub clause : IsRewritten p.stated.clause s.clause
  pub by_propagation : (s.witness ≡ None) ↔ Rup (clauses p.alive) p.stated.clause
  pub by_witness : (s.witness ≡ None) ⊎ (s.witness ≡ witness_of p.stated)
  pub cites_alive : CitesAlive p.alive s

-- the last step has the number after all lemmas
pub record IsLast (s : Step) (st : Standing) : Type 0 where
  pub id : s.id ≡ st.next
  pub clause : s.clause ≡ []
  pub no_witness : s.witness ≡ None
  pub cites_alive : CitesAlive st.alive s

abbrev pub AreFrom : List (List Literal) → List Done → List Step → Type 0
AreFrom f ds [] = ⊥
AreFrom f ds (s ∷ []) = IsLast s (after_all (at_start f) ds)
AreFrom f ds (s ∷ t ∷ later) = ((p : Place) × (place_of (at_start f) ds s.id ≡ Some p) × IsStepOf s p) × AreFrom f ds (t ∷ later)

-- the steps come from the lines of a proof up to the conflict at which its loading stops
pub record AreFromProof (keep : Bool) (f : List (List Literal)) (proof : List Line) (steps : List Step) : Type 0 where
  pub done : List Done
  pub loads : Loads keep f proof done at_conflict
  pub from : AreFrom f done steps

-- a step with the lemma's clause as it was read
abbrev pub with_clause_of : Step → Option Place → Step
with_clause_of s None = s
with_clause_of s (Some p) = record s { clause = p.stated.clause }

abbrev pub as_read : List (List Literal) → List Done → Step → Step
as_read f ds s = with_clause_of s (place_of (at_start f) ds s.id)

-- the witnesses of lemmas have the pivots of their clauses; then so have those of steps that come from them
abbrev pub LemmasHavePivots : List Done → Type 0
LemmasHavePivots [] = Unit {0}
LemmasHavePivots (joined l ∷ ds) = LineHasPivot (lemma_line l) × LemmasHavePivots ds
LemmasHavePivots (removed k ∷ ds) = LemmasHavePivots ds
LemmasHavePivots (passed ∷ ds) = LemmasHavePivots ds

abbrev pub StepsFromLemmasHavePivots : Type 0
StepsFromLemmasHavePivots = (f : List (List Literal)) (ds : List Done) (steps : List Step) → LemmasHavePivots ds → AreFrom f ds steps → StepsHavePivots steps
