use Rattle.std.proofs.Common.{arith}
use Rattle.sr_lists.proofs.Walking.{count_closed, count_open}
use Rattle.sr_lists.proofs.lists.Lists.count.Goals as goal

pub returns-then-self-eq0 : goal.returns-then-self-eq0
returns-then-self-eq0 c = count_closed c.self.inside.stacks c.self.inside.walked c.self.inside.next c.self.inside.hole c.self.inside.held c.self.inside.room c.args.self.now c.self.invariant c.self.view_is c.if-self-eq0.true

pub returns-else-self-eq0 : goal.returns-else-self-eq0
returns-else-self-eq0 c = omega (arith, count_open c.self.inside.stacks c.self.inside.walked c.self.inside.next c.self.inside.hole c.self.inside.held c.self.inside.room c.args.self.now c.self.invariant c.self.view_is (omega (arith, c.if-self-eq0.false)))
