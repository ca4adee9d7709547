use Rattle.std.proofs.Common.{◌≡◌, ◌∙◌, ◌==◌, not, true, false, get_or, ap, arith}
use Rattle.std.proofs.lemmas.Bool.Decides.{nat_tests}
use Rattle.sr_placing.proofs.Ranging.{added, not_added}
use Rattle.sr_placing.proofs.placing.part_formula.Goals as goal
use Rattle.sr_placing.proofs.placing.part_formula.Goals.{then-last-eq0+in_ok-push, else-last-eq0+in_ok-push-2}

pub loop-i-preserved : goal.loop-i-preserved
loop-i-preserved c = elim c.if-last-eq0.branch [
  | then-last-eq0+in_ok-push w ↦
      let none : (get_or c.args.uses.now c.loop-i.i 0 == 0) ≡ true = grind (arith, nat_tests) in
      record {
        uncited = added (λ x. x == 0) c.args.uncited.now c.loop-i.uncited c.if-last-eq0.uncited c.args.uses.now c.loop-i.i (omega arith) c.loop-i.invariant.uncited none (w.uncited-is ∙ w.in_ok-push.ensures.ok);
        core = w.core-is ∙ not_added (λ x. not (x == 0)) c.args.core.now c.loop-i.core c.args.uses.now c.loop-i.i (omega arith) c.loop-i.invariant.core (ap not none);
      }
  | else-last-eq0+in_ok-push-2 w ↦
      let some : (get_or c.args.uses.now c.loop-i.i 0 == 0) ≡ false = grind (arith, nat_tests) in
      record {
        uncited = w.uncited-is ∙ not_added (λ x. x == 0) c.args.uncited.now c.loop-i.uncited c.args.uses.now c.loop-i.i (omega arith) c.loop-i.invariant.uncited some;
        core = added (λ x. not (x == 0)) c.args.core.now c.loop-i.core c.if-last-eq0.core c.args.uses.now c.loop-i.i (omega arith) c.loop-i.invariant.core (ap not some) (w.core-is ∙ w.in_ok-push-2.ensures.ok);
      }
]
