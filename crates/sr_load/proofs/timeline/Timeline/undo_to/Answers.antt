use Rattle.std.proofs.Common.{ap}
use Rattle.sr_watch.specs.State.{weights}
use Rattle.sr_load.proofs.Copying.{all_reordered_self}
use Rattle.sr_load.proofs.Keeping.{keeps_levels}
use Rattle.sr_load.proofs.timeline.Timeline.undo_to.Goals as goal

pub invariant_of-self : goal.invariant_of-self
invariant_of-self c =
    (keeps_levels _ _ c.self.inside.propagator c.undo_to.new.propagator _ _ _ _ _ _ c.self.invariant.0 (all_reordered_self _ _ c.undo_to.ensures.clauses) (ap weights c.undo_to.ensures.clauses) c.undo_to.ensures.entries, c.self.invariant.1)
