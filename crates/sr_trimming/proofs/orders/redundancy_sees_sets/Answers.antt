use Rattle.sr_trimming.proofs.Rewritten.{sr_same}
use Rattle.sr_trimming.proofs.orders.redundancy_sees_sets.Goals as goal

pub returns : goal.returns
returns c = sr_same
