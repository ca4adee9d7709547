use Rattle.std.proofs.Common.{ℕ, List, subst}
use Rattle.sr_placing.proofs.Putting.{other_more}
use Rattle.sr_placing.proofs.step.put_pivot_first.Goals as goal

pub loop-l-preserved : goal.loop-l-preserved
loop-l-preserved g c = record {
  can = g.met.S.Sink.stays _ _ _ _ _ c.loop-l.invariant.can c.put_other.ensures;
  put = subst (λ (x : List ℕ). g.S.Sink.puts c.args.sink.now c.args.out.now c.put_other.new.sink c.put_other.new.out x)
      (other_more c.args.form c.args.pivot c.args.lits.now c.loop-l.l-index c.l-item.result c.loop-l-test.true c.l-item.is)
      (g.met.S.Sink.joined _ _ _ _ _ _ _ _ c.loop-l.invariant.put c.put_other.ensures);
}
