-- What shows that a needed lemma fails, and that it can't be shown where each lemma passes.
use Rattle.std.specs.Prelude.{ℕ, Bool, true, ◌||◌, ◌≡◌, Some, List, [], ◌∷◌, Contains}
use Rattle.sr_base.specs.Literal.{Literal, compl}
use Rattle.sr_model.specs.Refutation.{Refutes}
use Rattle.sr_model.specs.Redundancy.{Rup}
use Rattle.sr_model.specs.Substitution.{Substitution, substitution_for}
use Rattle.sr_model.specs.Chain.{Numbered, clauses, clause_of}
use Rattle.sr_model.specs.Meeting.{Group, Step}
use Rattle.sr_trimming.specs.Citing.{groups_cite, is_cited}
use Rattle.sr_trimming.specs.Loading.{Done, joined, removed, passed, Standing, at_start, after_done, after_all, InConflict}
use Rattle.sr_trimming.specs.Lean.{is_lean, group_start}
use Rattle.sr_trimming.specs.CoreFirst.{ready, first_of, AreInOrder, AreCoreFirst}
use Rattle.sr_trimming.specs.From.{all_loaded, Place, place_of, AreFrom, LemmasHavePivots}
use Rattle.sr_trimming.specs.Backward.{AreLinked, MeetNeed}
use Rattle.sr_trimming.specs.Trimmed.{LeanByNeed}
use Rattle.sr_trimming.specs.Passing.{Passes}

-- each group that was found has a lean chain over the alive clauses
abbrev pub HaveLeanChains : Numbered → List Literal → Substitution → List Group → Type 0
HaveLeanChains s b w [] = Unit {0}
HaveLeanChains s b w (g ∷ gs) = ((d : List Literal) × (clause_of s g.0 ≡ Some d) × (is_lean s (group_start b w d) g.1 ≡ true)) × HaveLeanChains s b w gs

-- the set from which a lemma is refuted, and the substitution of its witness
abbrev pub assumed : Place → List Literal
assumed p = compl p.stated.clause

abbrev pub moves : Place → Substitution
moves p = substitution_for p.stated.clause p.stated.witness

-- The test of a lemma fails at a clause. Loading stopped at a conflict after the lemma's line; the later steps come from
-- lemmas, are linked and lean, and cite the lemma; the groups were found in the order in which they stand; and the next
-- clause in that order isn't refuted.
pub record FailsAt (f : List (List Literal)) (ds : List Done) (number against : ℕ) (groups : List Group) (tail : List Step) : Type 0 where
  pub place : Place
  pub is_place : place_of (at_start f) ds number ≡ Some place
  pub in_conflict : InConflict (after_all (at_start f) ds).alive
  pub not_rup : ¬ Rup (clauses place.alive) place.stated.clause
  pub needed : is_cited number tail ≡ true
  pub from : AreFrom f ds tail
  pub linked : AreLinked number tail
  pub lean : LeanByNeed (all_loaded f ds) tail
  pub core_first : AreCoreFirst (all_loaded f ds) tail
  pub in_order : AreInOrder place.alive tail (assumed place) (moves place) [] groups
  pub lean_groups : HaveLeanChains place.alive (assumed place) (moves place) groups
  pub clause : List Literal
  pub is_next : first_of (ready place.alive tail (assumed place) (moves place) groups) ≡ Some (against, clause)
  pub not_refuted : ¬ Refutes (clauses place.alive) (group_start (assumed place) (moves place) clause)

-- each lemma passes over the clauses alive before its line
abbrev pub EachPasses : Standing → List Done → Type 0
EachPasses st [] = Unit {0}
EachPasses st (joined l ∷ ds) = Passes (clauses st.alive) (clauses st.alive) l × EachPasses (after_done st (joined l)) ds
EachPasses st (removed k ∷ ds) = EachPasses (after_done st (removed k)) ds
EachPasses st (passed ∷ ds) = EachPasses st ds

-- what shows that a lemma fails is true: it doesn't pass over the clauses alive before its line
abbrev pub FailingDoesNotPass : Type 0
FailingDoesNotPass = (f : List (List Literal)) (ds : List Done) (number against : ℕ) (groups : List Group) (tail : List Step) (x : FailsAt f ds number against groups tail)
    → ¬ Passes (clauses x.place.alive) (clauses x.place.alive) x.place.stated

-- so where each lemma passes, nothing shows that one fails
abbrev pub PassingNeverFails : Type 0
PassingNeverFails = (f : List (List Literal)) (ds : List Done) → EachPasses (at_start f) ds
    → (number against : ℕ) (groups : List Group) (tail : List Step) → ¬ FailsAt f ds number against groups tail

-- the clause at which a lemma fails is alive, and is cited later or by a group before; and the later steps are met
abbrev pub FailingIsNeeded : Type 0
FailingIsNeeded = (f : List (List Literal)) (ds : List Done) (number against : ℕ) (groups : List Group) (tail : List Step) (x : FailsAt f ds number against groups tail)
    → (is_cited against tail || groups_cite against groups ≡ true) × Contains x.place.alive (against, x.clause)
    × (LemmasHavePivots ds → (strict : Bool) → MeetNeed strict (all_loaded f ds) tail)
