use Rattle.std.proofs.Common.{arith}
use Rattle.sr_load.proofs.Hashes.{have_more}
use Rattle.sr_load.proofs.hashing.cover.Goals as goal

pub loop-l-preserved : goal.loop-l-preserved
loop-l-preserved c = record {
  clear = c.in_ok-reach.ensures.clear;
  room = have_more c.loop-l.marks.items c.reach.new.marks.items c.args.lits.now c.loop-l.l-index c.l-item.result c.loop-l-test.true c.l-item.is c.loop-l.invariant.room c.in_ok-reach.ensures.more (omega (arith, c.in_ok-reach.ensures.long, c.code.ensures.value));
}
