use Rattle.std.proofs.Common.{◌≡◌, ◌++◌, ◌∷◌, [], arith}
use Rattle.std.proofs.lemmas.Grind.{common_steps}
use Rattle.sr_scan.specs.Written.{written_literals}
use Rattle.sr_lemma.proofs.WriteLemmas.{pairs_step}
use Rattle.sr_lemma.proofs.write.put_pairs.Goals as goal

pub loop-map-preserved : goal.loop-map-preserved
loop-map-preserved c =
    let put : c.put_pair.new.out ≡ c.loop-map.out ++ written_literals c.args.form (c.map-item.result.0 ∷ c.map-item.result.1 ∷ []) = grind (arith, common_steps) in
    record {
      written = pairs_step c.args.form c.args.out.now c.loop-map.out c.put_pair.new.out c.args.maps.now c.loop-map.map-index c.map-item.result c.loop-map-test.true c.map-item.is c.loop-map.invariant.written put;
      before = c.loop-map.invariant.before;
    }
