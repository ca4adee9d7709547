use Rattle.std.proofs.Common.{arith}
use Rattle.sr_watch.proofs.Purges.{all_cleared}
use Rattle.sr_watch.proofs.purging.clear.Goals as goal

pub returns-clause-all : goal.returns-clause-all
returns-clause-all c = all_cleared c.loop-i.memory c.args.known.now c.loop-i.i (omega arith) c.loop-i.invariant.first
