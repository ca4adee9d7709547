use Rattle.std.proofs.Common.{length}
use Rattle.sr_load.proofs.Backing.{IsBackTo}
use Rattle.sr_load.proofs.timeline.Timeline.back.Given as goal

abbrev pub invariant-lines : goal.invariant-lines
invariant-lines l = IsBackTo l.fn.self l.self

abbrev pub decreases-lines : goal.decreases-lines
decreases-lines l = length l.self.standing
