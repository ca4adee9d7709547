use Rattle.sr_trimming.proofs.PivotFirst.{step_keeps_limits}
use Rattle.sr_trimming.proofs.orders.steps_keep_limits.Goals as goal

pub returns : goal.returns
returns c = step_keeps_limits
