use Rattle.std.proofs.Common.{arith}
use Rattle.sr_load.proofs.Hashes.{marked_more, room_at}
use Rattle.sr_load.proofs.hashing.mark.Goals as goal

pub bounds-marks-code : goal.bounds-marks-code
bounds-marks-code c = omega (arith, c.code.ensures.value, c.loop-l.auto.marks, room_at c.args.marks.now c.args.lits.now c.loop-l.l-index c.l-item.result c.loop-l-test.true c.l-item.is c.requires)

pub loop-l-preserved : goal.loop-l-preserved
loop-l-preserved c k =
    let lt = room_at c.args.marks.now c.args.lits.now c.loop-l.l-index c.l-item.result c.loop-l-test.true c.l-item.is c.requires in
    rw c.code.ensures.value (marked_more c.args.marks.now c.loop-l.marks c.args.lits.now c.loop-l.l-index c.l-item.result c.args.to k c.loop-l-test.true c.l-item.is (omega (arith, lt, c.loop-l.auto.marks)) (c.loop-l.invariant k))
