use Rattle.sr_trimming.proofs.PivotFirst.{order_keeps_limits}
use Rattle.sr_trimming.proofs.orders.order_keeps_limits.Goals as goal

pub returns : goal.returns
returns c = order_keeps_limits
