-- What is kept of the lines.
use Rattle.std.specs.Prelude.{ℕ, ◌≤◌, ◌≡◌, true, List, [], ◌∷◌, length, map, take, drop}
use Rattle.sr_model.specs.Substitution.{IsPivot}
use Rattle.sr_model.specs.Dimacs.{Formula}
use Rattle.sr_base.specs.Literal.{Literal}
use Rattle.sr_lemma.specs.Lines.{lemma_told}
use Rattle.sr_trimming.specs.Loading.{Done, joined, removed, passed, Standing, after_done}
use Rattle.sr_load.specs.declared.records.Event.{Event}
use Rattle.sr_load.specs.declared.records.Event.TheVariants.{Joined, Removed, Passed}
use Rattle.sr_load.specs.declared.records.Told.{Told}
use Rattle.sr_load.specs.Numbers.{has_clause}
use Rattle.sr_load.specs.Loaded.{LoadedState}
use Rattle.sr_load.specs.Loading.{passed_in}

-- what a line did, of its record
abbrev pub done_of : Event → Done
done_of (Joined l) = joined (lemma_told l.value)
done_of (Removed n) = removed n
done_of Passed = passed

abbrev pub done_in : List Event → List Done
done_in es = map done_of es

-- where so many lines stand
abbrev pub loaded_at : Formula → List Event → ℕ → List ℕ → List Literal → LoadedState
loaded_at f es k cited assumed = record { formula = f; standing = done_in (take k es); undone = done_in (drop k es); cited = cited; assumed = assumed }

-- the pivots and witnesses of the lemmas are these
abbrev pub AreTold : List Done → List Told → Type 0
AreTold [] [] = Unit {0}
AreTold [] (t ∷ ts) = ⊥
AreTold (joined l ∷ ds) [] = ⊥
AreTold (joined l ∷ ds) (t ∷ ts) = IsPivot t.pivot l.clause × (l.witness ≡ t.witness) × AreTold ds ts
AreTold (removed k ∷ ds) ts = AreTold ds ts
AreTold (passed ∷ ds) ts = AreTold ds ts

-- what is removed was alive
abbrev pub RemoveAlive : Standing → List Done → Type 0
RemoveAlive st [] = Unit {0}
RemoveAlive st (joined l ∷ ds) = RemoveAlive (after_done st (joined l)) ds
RemoveAlive st (removed k ∷ ds) = (has_clause st.alive k ≡ true) × RemoveAlive (after_done st (removed k)) ds
RemoveAlive st (passed ∷ ds) = RemoveAlive st ds

-- so many lines stand, and so many were passed over
pub record AreCounted (es : List Event) (standing count : ℕ) : Type 0 where
  pub within : standing ≤ length es
  pub passes : count ≡ passed_in (done_in es)
