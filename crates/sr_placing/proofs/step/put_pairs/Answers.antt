use Rattle.std.proofs.Common.{ℕ, List, subst}
use Rattle.sr_placing.proofs.Putting.{pair_more}
use Rattle.sr_placing.proofs.step.put_pairs.Goals as goal

pub loop-map-preserved : goal.loop-map-preserved
loop-map-preserved g c =
    let first = g.met.S.Sink.joined _ _ _ _ _ _ _ _ c.loop-map.invariant.put c.put_literal.ensures in
    let second = g.met.S.Sink.joined _ _ _ _ _ _ _ _ first c.put_literal-in-loop-map.ensures in
    record {
      can = g.met.S.Sink.stays _ _ _ _ _ (g.met.S.Sink.stays _ _ _ _ _ c.loop-map.invariant.can c.put_literal.ensures) c.put_literal-in-loop-map.ensures;
      put = subst (λ (x : List ℕ). g.S.Sink.puts c.args.sink.now c.args.out.now c.put_literal-in-loop-map.new.sink c.put_literal-in-loop-map.new.out x)
          (pair_more c.args.form c.args.maps.now c.loop-map.map-index c.map-item.result c.loop-map-test.true c.map-item.is) second;
    }
