use Rattle.sr_trimming.proofs.Rewritten.{rup_same}
use Rattle.sr_trimming.proofs.orders.rup_sees_sets.Goals as goal

pub returns : goal.returns
returns c = rup_same
