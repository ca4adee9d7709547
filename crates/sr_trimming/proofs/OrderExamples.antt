-- That no literal comes twice is needed, since to hints a repeated literal is two; and a small proof in two orders.
use Rattle.std.proofs.Common.{◌≡◌, true, false, List, None, [], ◌∷◌, refl, arith}
use Rattle.sr_base.specs.Literal.{Literal, plus, minus, same, SameSet}
use Rattle.sr_base.specs.declared.names.Cause.TheVariants.{NotUnit}
use Rattle.sr_model.specs.declared.verdict.Verdict.TheVariants.{Verified}
use Rattle.sr_model.specs.Chain.{chain, unclosed, faulty}
use Rattle.sr_model.specs.Meeting.{Step}
use Rattle.sr_model.specs.Judging.{stepped, dropped, judge}
use Rattle.sr_trimming.specs.Reordered.{AreStepsRewritten}
use Rattle.sr_trimming.specs.Citing.{all_of}
use Rattle.sr_trimming.specs.Placing.{placed}
use Rattle.sr_trimming.specs.Backward.{AreLinked}
use Rattle.sr_trimming.specs.Trimmed.{LeanByNeed}

same_set : SameSet (plus 1 ∷ plus 1 ∷ []) (plus 1 ∷ [])
same_set l = grind arith

twice : chain false ((7, plus 1 ∷ plus 1 ∷ []) ∷ []) [] (7 ∷ []) ≡ faulty (NotUnit 7)
unfolding same
twice = refl

once : chain false ((7, plus 1 ∷ []) ∷ []) [] (7 ∷ []) ≡ unclosed (plus 1 ∷ [])
unfolding same
once = refl

-- a proof of one lemma: as it is read, and as it may be written
formula : List (List Literal)
formula = (plus 1 ∷ plus 2 ∷ plus 3 ∷ plus 4 ∷ []) ∷ (plus 1 ∷ plus 2 ∷ plus 3 ∷ minus 4 ∷ []) ∷ (minus 3 ∷ []) ∷ (plus 1 ∷ minus 2 ∷ []) ∷ (minus 1 ∷ []) ∷ (plus 4 ∷ plus 5 ∷ []) ∷ []

lemma_step : List Literal → Step
lemma_step c = record { id = 7; clause = c; witness = None; prefix = 1 ∷ 2 ∷ []; groups = [] }

last_step : Step
last_step = record { id = 8; clause = []; witness = None; prefix = 3 ∷ 5 ∷ 4 ∷ 7 ∷ []; groups = [] }

steps : List Literal → List Step
steps c = lemma_step c ∷ last_step ∷ []

rewritten : AreStepsRewritten (steps (plus 1 ∷ plus 2 ∷ plus 3 ∷ [])) (steps (plus 1 ∷ plus 3 ∷ plus 2 ∷ []))
unfolding steps lemma_step last_step same
rewritten = (
  record { id = refl; clause = record { pivot = refl; reordered = record { same_literals = λ l. grind arith; none_twice = (refl, (refl, (refl, tt))); none_twice_in_other = (refl, (refl, (refl, tt))) } }; witness = refl; prefix = refl; groups = refl },
  (record { id = refl; clause = record { pivot = tt; reordered = record { same_literals = λ l. refl; none_twice = tt; none_twice_in_other = tt } }; witness = refl; prefix = refl; groups = refl }, tt),
)

linked : AreLinked 6 (steps (plus 1 ∷ plus 3 ∷ plus 2 ∷ []))
unfolding steps lemma_step last_step
linked = (omega arith, refl, refl, (omega arith, refl))

lean : LeanByNeed (all_of formula (steps (plus 1 ∷ plus 3 ∷ plus 2 ∷ []))) (steps (plus 1 ∷ plus 3 ∷ plus 2 ∷ []))
unfolding formula steps lemma_step last_step same
lean = ((refl, refl), ((refl, refl), tt))

items : placed formula (steps (plus 1 ∷ plus 3 ∷ plus 2 ∷ []))
    ≡ dropped 6 (6 ∷ []) ∷ stepped (lemma_step (plus 1 ∷ plus 3 ∷ plus 2 ∷ [])) ∷ dropped 7 (1 ∷ 2 ∷ []) ∷ stepped last_step ∷ []
unfolding formula steps lemma_step last_step
items = refl

verified : judge true formula (placed formula (steps (plus 1 ∷ plus 3 ∷ plus 2 ∷ []))) ≡ Verified
unfolding formula steps lemma_step last_step same
verified = refl
