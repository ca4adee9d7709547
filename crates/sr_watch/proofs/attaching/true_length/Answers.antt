use Rattle.std.proofs.Common.{arith}
use Rattle.sr_watch.proofs.Tables.{in_list}
use Rattle.sr_watch.proofs.Places.{place_true}
use Rattle.sr_watch.proofs.attaching.true_length.Goals as goal

pub place-place-requires : goal.place-place-requires
place-place-requires c = c.requires.within c.l-item.result (in_list c.args.clause.now c.loop-l.l-index c.l-item.result (omega arith) c.l-item.is)

pub loop-l-preserved : goal.loop-l-preserved
loop-l-preserved c some = record {
  literal = c.l-item.result;
  of_clause = in_list c.args.clause.now c.loop-l.l-index c.l-item.result (omega arith) c.l-item.is;
  is_true = place_true c.args.trail.now.lits c.l-item.result c.place-place.result (omega (arith, some, c.place-place.ensures)) (omega (arith, c.place-place.ensures));
}
