use Rattle.std.proofs.Common.{List, ◌≤◌, ◌+◌, ◌≡◌, ◌∙◌, ◌++◌, ◌∷◌, [], sym, ap, subst, arith, true, take, take_all}
use Rattle.std.proofs.lemmas.List.{take_more}
use Rattle.sr_base.specs.Literal.{Literal, variable, same, has}
use Rattle.sr_base.proofs.Literals.{same_tells, has_append}
use Rattle.sr_model.proofs.Soundness.{by_test}
use Rattle.sr_watch.specs.State.{AreWithin}
use Rattle.sr_watch.proofs.tests.are_within.Goals as goal

pub loop-l-preserved : goal.loop-l-preserved
loop-l-preserved c k h =
    let more : take (c.loop-l.l-index + 1) c.args.lits.now ≡ take c.loop-l.l-index c.args.lits.now ++ c.l-item.result ∷ [] = take_more c.args.lits.now c.loop-l.l-index c.l-item.result (omega arith) ∙ ap (λ x. take c.loop-l.l-index c.args.lits.now ++ x ∷ []) (sym c.l-item.is) in
    let g : has k (take c.loop-l.l-index c.args.lits.now ++ c.l-item.result ∷ []) ≡ true = subst (λ (x : List Literal). has k x ≡ true) more h in
    by_test (same c.l-item.result k)
    (λ t. let is : c.l-item.result ≡ k = grind (arith, same_tells c.l-item.result k) in subst (λ (j : Literal). variable j ≤ c.args.vars) is (omega (arith, c.var.ensures.value)))
    (λ f. c.loop-l.invariant k (grind (arith, has_append k (take c.loop-l.l-index c.args.lits.now) (c.l-item.result ∷ []))))

pub returns : goal.returns
returns c t = let all : take c.loop-l.l-index c.args.lits.now ≡ c.args.lits.now = take_all c.loop-l.l-index c.args.lits.now (omega arith) in subst (AreWithin c.args.vars) all c.loop-l.invariant
