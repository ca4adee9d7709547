use Rattle.std.proofs.Common.{subst}
use Rattle.sr_occurs.specs.Occurring.{KeepsListed}
use Rattle.sr_check.proofs.Checks.{keeps_room}
use Rattle.sr_check.proofs.checker.Checker.take_step.Goals as goal

pub invariant_of-self : goal.invariant_of-self
invariant_of-self c = keeps_room c.self.inside.live.most c.self.inside.live.clauses c.self.inside.live.last c.self.inside.scratch c.meet_step.new.scratch c.self.invariant c.in_err-cause.ensures.clear c.in_err-cause.ensures.room (subst (KeepsListed c.meet_step.new.scratch.lists) c.clauses.ensures c.in_err-cause.ensures.lists)

pub invariant_of-self-in-Unmet : goal.invariant_of-self-in-Unmet
invariant_of-self-in-Unmet c = keeps_room c.self.inside.live.most c.self.inside.live.clauses c.self.inside.live.last c.self.inside.scratch c.meet_step.new.scratch c.self.invariant c.in_ok-cause.ensures.clear c.in_ok-cause.ensures.room (subst (KeepsListed c.meet_step.new.scratch.lists) c.clauses.ensures c.in_ok-cause.ensures.lists)

pub invariant_of-self-then-is_empty : goal.invariant_of-self-then-is_empty
invariant_of-self-then-is_empty c = keeps_room c.self.inside.live.most c.self.inside.live.clauses c.self.inside.live.last c.self.inside.scratch c.meet_step.new.scratch c.self.invariant c.in_ok-cause.ensures.clear c.in_ok-cause.ensures.room (subst (KeepsListed c.meet_step.new.scratch.lists) c.clauses.ensures c.in_ok-cause.ensures.lists)

pub invariant_of-self-else-is_empty : goal.invariant_of-self-else-is_empty
invariant_of-self-else-is_empty c = keeps_room c.self.inside.live.most c.self.inside.live.clauses c.self.inside.live.last c.self.inside.scratch c.meet_step.new.scratch c.self.invariant c.in_ok-cause.ensures.clear c.in_ok-cause.ensures.room (subst (KeepsListed c.meet_step.new.scratch.lists) c.clauses.ensures c.in_ok-cause.ensures.lists)
