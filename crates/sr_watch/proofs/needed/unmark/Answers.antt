use Rattle.std.proofs.Common.{arith}
use Rattle.sr_watch.specs.Marks.{joined}
use Rattle.sr_watch.proofs.Keeping.{attached_at}
use Rattle.sr_watch.proofs.Marking.{attached_held}
use Rattle.sr_watch.proofs.needed.unmark.Goals as goal

pub lits-requires : goal.lits-requires
lits-requires g c = attached_held c.args.trail.now c.args.memory.now c.at-item.result c.requires.sound (attached_at (joined c.args.trail.now c.args.memory.now) c.args.chain.now c.loop-at.at-index c.at-item.result (omega arith) c.at-item.is c.requires.left.attached)
