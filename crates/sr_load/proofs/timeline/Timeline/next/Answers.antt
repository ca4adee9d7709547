use Rattle.std.proofs.Common.{subst}
use Rattle.sr_load.specs.Buckets.{AreDistinct}
use Rattle.sr_load.proofs.timeline.Timeline.next.Goals as goal

pub returns-clause-distinct : goal.returns-clause-distinct
returns-clause-distinct c = subst AreDistinct c.self.view_is (λ n d e. (c.self.invariant.0.tied.linked n d e).distinct)
