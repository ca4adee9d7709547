use Rattle.std.proofs.Common.{subst}
use Rattle.sr_occurs.specs.Occurring.{IsTableFor}
use Rattle.sr_check.proofs.Storing.{table_for}
use Rattle.sr_check.proofs.live.LiveClauses.table.Goals as goal

pub returns : goal.returns
returns c = subst (IsTableFor c.self.inside.table.now) c.self.view_is (table_for c.self.inside.mem.now c.self.inside.table.now c.self.invariant)
