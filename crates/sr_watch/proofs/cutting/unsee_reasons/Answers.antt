use Rattle.sr_watch.proofs.Cuts.{none_freed}
use Rattle.sr_watch.proofs.cutting.unsee_reasons.Goals as goal

pub returns-then-watches-mark-clause-resting : goal.returns-then-watches-mark-clause-resting
returns-then-watches-mark-clause-resting c = none_freed c.args.core c.args.memory.now c.args.trail.now c.args.watches.now c.args.mark c.if-watches-mark.true c.requires.resting
