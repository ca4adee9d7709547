use Rattle.sr_check.proofs.Relinking.{linked_known, linked_opened}
use Rattle.sr_check.proofs.storage.prepare.Goals as goal

pub returns-then-size-held_cells-clause-known : goal.returns-then-size-held_cells-clause-known
returns-then-size-held_cells-clause-known c = linked_known c.args.mem.now c.args.table.now c.requires

pub returns-then-size-held_cells-clause-open : goal.returns-then-size-held_cells-clause-open
returns-then-size-held_cells-clause-open c = linked_opened c.args.mem.now c.args.table.now c.requires c.size.ensures.set
