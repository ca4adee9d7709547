use Rattle.std.proofs.Common.{subst}
use Rattle.sr_lists.specs.Stacks.{AreApart}
use Rattle.sr_lists.proofs.Calls.{are_apart}
use Rattle.sr_lists.proofs.stacks.Stacks.apart.Goals as goal

pub returns : goal.returns
returns c = subst AreApart c.self.view_is (are_apart c.self.inside.newest.items c.self.inside.below.items c.self.inside.cells.items c.self.inside.free c.self.inside.room _ _ c.self.invariant)
