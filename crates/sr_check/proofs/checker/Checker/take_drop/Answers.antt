use Rattle.sr_check.proofs.Checks.{keeps_without}
use Rattle.sr_check.proofs.checker.Checker.take_drop.Goals as goal

pub invariant_of-self : goal.invariant_of-self
invariant_of-self c = rw c.in_default.ensures.removed (keeps_without c.self.inside.live.most c.self.inside.live.clauses c.self.inside.live.last c.self.inside.scratch c.args.ids.now c.self.invariant)
