use Rattle.std.proofs.Common.{◌<◌, arith, ◌∙◌, ap, subst}
use Rattle.sr_model.specs.Refutation.{IsClosed}
use Rattle.sr_model.specs.Substitution.{has_pair}
use Rattle.sr_model.specs.Propagation.{IsNewOf}
use Rattle.sr_model.proofs.Saturation.{measure_falls, reached_more, answer_is, lacking}
use Rattle.sr_model.proofs.Soundness.{all_literals}
use Rattle.sr_model.proofs.plain.refutes_plain.Goals as goal
use Rattle.sr_model.proofs.plain.refutes_plain.Goals.{then-one_is_empty, else-one_is_empty}

pub loop-l-2-smaller : goal.loop-l-2-smaller
loop-l-2-smaller c =
    let new : IsNewOf c.loop-l-2.set c.args.clauses.now c.in-Some.l = subst (λ x. IsNewOf x c.args.clauses.now c.in-Some.l) c.as_slice.ensures c.in-Some.ensures in
    let less : lacking c.push-in-Some.new.self (all_literals c.args.clauses.now) < lacking c.loop-l-2.set (all_literals c.args.clauses.now) =
    rw c.in_ok-push-2.ensures.ok (measure_falls c.loop-l-2.set c.args.clauses.now c.in-Some.l new) in
    less

pub loop-l-2-preserved : goal.loop-l-2-preserved
loop-l-2-preserved c =
    let new : IsNewOf c.loop-l-2.set c.args.clauses.now c.in-Some.l = subst (λ x. IsNewOf x c.args.clauses.now c.in-Some.l) c.as_slice.ensures c.in-Some.ensures in
    rw c.in_ok-push-2.ensures.ok (reached_more c.args.clauses.now c.args.assumed.now c.loop-l-2.set c.in-Some.l c.loop-l-2.invariant new)

pub returns : goal.returns
returns c =
    answer_is c.args.clauses.now c.args.assumed.now c.loop-l-2.set c.if-one_is_empty.result c.loop-l-2.invariant (subst (λ x. IsClosed x c.args.clauses.now) c.as_slice.ensures c.in_default.ensures)
    (elim c.if-one_is_empty.branch [
      | then-one_is_empty w ↦ w.result-is ∙ grind (arith, c.one_is_empty.ensures, w.if-one_is_empty.true)
      | else-one_is_empty w ↦ w.result-is ∙ w.holds_pair.ensures ∙ ap has_pair w.as_slice-else-one_is_empty.ensures ∙ grind (arith, c.one_is_empty.ensures, w.if-one_is_empty.false)
    ])
