use Rattle.std.proofs.Common.{ℕ, List, length, subst}
use Rattle.sr_cnf.specs.Written.{header}
use Rattle.sr_placing.proofs.Coring.{lines_more}
use Rattle.sr_placing.proofs.core_text.put_clauses.Goals as goal

pub loop-id-preserved : goal.loop-id-preserved
loop-id-preserved g c = record {
  can = g.met.S.Sink.stays _ _ _ _ _ c.loop-id.invariant.can c.put_line.ensures;
  put = subst (λ (x : List ℕ). g.S.Sink.puts c.args.sink.now c.args.out.now c.put_line.new.sink c.put_line.new.out x)
      (lines_more (header c.args.formula.now.vars (length c.args.ids.now)) c.args.formula.now c.args.ids.now c.loop-id.id-index c.clause.result.now c.loop-id-test.true c.clause.ensures.value)
      (g.met.S.Sink.joined _ _ _ _ _ _ _ _ c.loop-id.invariant.put c.put_line.ensures);
}
