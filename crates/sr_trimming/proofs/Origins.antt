-- Steps that come from lemmas have the lemmas' pivots.
use Rattle.std.proofs.Common.{◌≡◌, ◌⊎◌, inl, inr, ℕ, ◌==◌, Option, Some, None, List, [], ◌∷◌, sym, ◌∙◌, ap, subst}
use Rattle.sr_base.specs.Literal.{Literal}
use Rattle.sr_model.specs.Substitution.{Witness, IsPivot}
use Rattle.sr_model.specs.Meeting.{Step, HasPivot}
use Rattle.sr_model.specs.Dsr.{lemma_line, LineHasPivot}
use Rattle.sr_trimming.specs.Loading.{Done, joined, removed, passed, Standing, at_start, after_done}
use Rattle.sr_trimming.specs.From.{Place, place_of, witness_of, IsStepOf, AreFrom, LemmasHavePivots}
use Rattle.sr_trimming.specs.Backward.{StepsHavePivots}
use Rattle.sr_model.proofs.Soundness.{by_test}
use Rattle.sr_trimming.proofs.ProofsRewritten.{pivot_same}

pub place_pivot : (st : Standing) (ds : List Done) (n : ℕ) (p : Place) → LemmasHavePivots ds → place_of st ds n ≡ Some p → LineHasPivot (lemma_line p.stated)
place_pivot st [] n p h e = absurd cc
place_pivot st (joined l ∷ ds) n p h e = by_test (st.next == n)
    (λ t. let here : Some (record { alive = st.alive; stated = l }) ≡ Some p = rw t at e in
    let is : record { alive = st.alive; stated = l } ≡ p = cc in subst (λ x. LineHasPivot (lemma_line x.stated)) is h.0)
    (λ t. place_pivot (after_done st (joined l)) ds n p h.1 (rw t at e))
place_pivot st (removed k ∷ ds) n p h e = place_pivot (after_done st (removed k)) ds n p h e
place_pivot st (passed ∷ ds) n p h e = place_pivot st ds n p h e

-- the written witness of a lemma has the lemma's pivot
written_pivot : (c : List Literal) (o : Option Witness) (w : Witness) → ((v : Witness) → o ≡ Some v → IsPivot v.pivot c)
    → elim o [ Some v ↦ Some v | None ↦ elim c [ [] ↦ None | k ∷ ks ↦ Some (record { pivot = k; assigned = []; maps = [] }) ] ] ≡ Some w → IsPivot w.pivot c
written_pivot c (Some v) w h e = h w e
written_pivot [] None w h e = absurd cc
written_pivot (k ∷ ks) None w h e = let is : record { pivot = k; assigned = []; maps = [] } ≡ w = cc in sym (ap (λ x. x.pivot) is)

step_pivot : (s : Step) (p : Place) → LineHasPivot (lemma_line p.stated) → IsStepOf s p → HasPivot s
step_pivot s p h o w e = at o.by_witness
  where
    at : (s.witness ≡ None) ⊎ (s.witness ≡ witness_of p.stated) → IsPivot w.pivot s.clause
    at (inl n) = let bad : None ≡ Some w = sym n ∙ e in absurd cc
    at (inr i) = pivot_same p.stated.clause s.clause w.pivot o.clause.pivot (written_pivot p.stated.clause p.stated.witness w h (sym i ∙ e))

pub from_pivots : (f : List (List Literal)) (ds : List Done) (steps : List Step) → LemmasHavePivots ds → AreFrom f ds steps → StepsHavePivots steps
from_pivots f ds [] h a = absurd a
from_pivots f ds (s ∷ []) h a = ((λ w e. let bad : None ≡ Some w = sym a.no_witness ∙ e in absurd cc), tt)
from_pivots f ds (s ∷ t ∷ later) h a = (step_pivot s a.0.0 (place_pivot (at_start f) ds s.id a.0.0 h a.0.1) a.0.2, from_pivots f ds (t ∷ later) h a.1)
