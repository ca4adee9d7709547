use Rattle.sr_load.proofs.Keeping.{keeps_grown, keeps_levels}
use Rattle.sr_load.proofs.timeline.Timeline.assume.Goals as goal

pub invariant_of-self-2 : goal.invariant_of-self-2
invariant_of-self-2 c =
    (keeps_levels _ _ _ _ _ _ _ _ _ _ (keeps_grown _ _ _ _ _ _ _ _ c.self.invariant.0 c.in_ok-make_room.ensures.same) c.assume.ensures.clauses c.assume.ensures.cells c.assume.ensures.entries, c.self.invariant.1)
