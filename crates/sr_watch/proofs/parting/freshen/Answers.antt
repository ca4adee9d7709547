use Rattle.std.proofs.Common.{refl}
use Rattle.sr_watch.proofs.Sides.{freshened}
use Rattle.sr_watch.proofs.parting.freshen.Goals as goal

pub returns-clause-watched : goal.returns-clause-watched
returns-clause-watched c e y = freshened c.args.memory.now c.clear.new.memory c.args.known.now e c.args.core.now (record c.args.core.now { lists = c.purge.new.lists }) c.args.rest.now (record c.args.rest.now { lists = c.purge-2.new.lists }) refl refl c.purge.ensures c.purge-2.ensures c.clear.ensures.cleared y
