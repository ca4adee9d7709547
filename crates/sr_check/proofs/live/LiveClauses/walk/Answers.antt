use Rattle.std.proofs.Common.{subst}
use Rattle.sr_check.specs.Storage.{AreApart}
use Rattle.sr_check.proofs.Storing.{apart_stored}
use Rattle.sr_check.proofs.live.LiveClauses.walk.Goals as goal

pub returns-clause-apart : goal.returns-clause-apart
returns-clause-apart c = subst AreApart c.self.view_is (apart_stored c.self.inside.mem.now c.self.inside.table.now c.self.invariant)
