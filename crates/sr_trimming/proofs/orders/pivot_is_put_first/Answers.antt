use Rattle.sr_trimming.proofs.PivotFirst.{pivot_put_first}
use Rattle.sr_trimming.proofs.orders.pivot_is_put_first.Goals as goal

pub returns : goal.returns
returns c = pivot_put_first
