use Rattle.std.proofs.Common.{arith, get_or}
use Rattle.sr_placing.proofs.Using.{holds_at, mark_more}
use Rattle.sr_placing.proofs.uses.mark_all.Goals as goal

pub bounds-marks-id : goal.bounds-marks-id
bounds-marks-id c = let low = c.requires (get_or c.args.ids.now c.loop-id.id-index 0) (holds_at c.args.ids.now c.loop-id.id-index c.loop-id-test.true) in omega (arith, low)

pub loop-id-preserved : goal.loop-id-preserved
loop-id-preserved c =
    let low = c.requires (get_or c.args.ids.now c.loop-id.id-index 0) (holds_at c.args.ids.now c.loop-id.id-index c.loop-id-test.true) in
    mark_more c.loop-id.marks c.args.marks.now c.args.ids.now c.loop-id.id-index c.args.mark c.loop-id-test.true (omega (arith, low)) c.loop-id.invariant
