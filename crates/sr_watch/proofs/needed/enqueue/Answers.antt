use Rattle.std.proofs.Common.{arith, ap, subst}
use Rattle.sr_base.specs.Literal.{Literal, variable}
use Rattle.sr_model.proofs.Saturation.{has_at}
use Rattle.sr_watch.specs.Collecting.{Awaits}
use Rattle.sr_watch.proofs.Collecting.{awaits_more}
use Rattle.sr_watch.proofs.Marking.{variable_complement}
use Rattle.sr_watch.proofs.needed.enqueue.Goals as goal

pub enqueue_one-requires-clause-within : goal.enqueue_one-requires-clause-within
enqueue_one-requires-clause-within c =
    omega (arith, ap variable c.neg.ensures.value, variable_complement c.k-item.result, c.requires.within c.k-item.result (has_at c.args.clause.now c.loop-k.k-index c.k-item.result c.loop-k-test.true c.k-item.is))

pub loop-k-preserved : goal.loop-k-preserved
loop-k-preserved c = record {
  keeps = λ i h. c.enqueue_one.ensures.keeps i (c.loop-k.invariant.keeps i h);
  awaits = awaits_more c.args.trail.now.lits c.args.marks.now c.args.below c.args.clause.now c.loop-k.k-index c.k-item.result c.loop-k.queue c.enqueue_one.new.queue c.loop-k-test.true c.k-item.is c.enqueue_one.ensures.keeps c.loop-k.invariant.awaits
      (subst (λ (l : Literal). Awaits c.args.trail.now.lits c.args.marks.now c.args.below c.enqueue_one.new.queue l) c.neg.ensures.value c.in_ok-enqueue_one.ensures.ok);
}
