use Rattle.std.proofs.Common.{arith, subst}
use Rattle.sr_model.specs.Refutation.{IsClosedFor}
use Rattle.sr_model.specs.Propagation.{IsNewIn}
use Rattle.sr_model.proofs.Saturation.{new_at, closed_more}
use Rattle.sr_model.proofs.plain.new_of.Goals as goal

pub returns-in-Some : goal.returns-in-Some
returns-in-Some c = new_at c.args.set.now c.args.clauses.now c.loop-clause.clause-index c.clause-item.result c.in-Some.l (omega arith) c.clause-item.is (subst (λ x. IsNewIn c.args.set.now x c.in-Some.l) c.lits.ensures.value c.in-Some.ensures)

pub loop-clause-preserved : goal.loop-clause-preserved
loop-clause-preserved c = closed_more c.args.set.now c.args.clauses.now c.loop-clause.clause-index c.clause-item.result (omega arith) c.clause-item.is c.loop-clause.invariant (subst (λ x. IsClosedFor c.args.set.now x) c.lits.ensures.value c.in_default.ensures)
