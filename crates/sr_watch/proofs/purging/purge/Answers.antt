use Rattle.std.proofs.Common.{arith}
use Rattle.sr_watch.proofs.Purges.{purged_start, purged_more, purged_over}
use Rattle.sr_watch.proofs.purging.purge.Goals as goal

pub loop-key-init : goal.loop-key-init
loop-key-init c = purged_start c.args.core c.args.memory.now c.args.lists.now c.requires.ahead c.requires.stocked

pub loop-key-preserved : goal.loop-key-preserved
loop-key-preserved c = purged_more c.args.core c.args.memory.now c.args.lists.now c.loop-key.lists c.purge_list.new.lists c.loop-key.key c.loop-key.invariant c.purge_list.ensures

pub returns : goal.returns
returns c = purged_over c.args.core c.args.memory.now c.args.lists.now c.loop-key.lists c.loop-key.key (omega (arith, c.loop-key.invariant.shape.keys)) c.loop-key.invariant
