use Rattle.sr_trimming.proofs.Reordered.{reduction_same}
use Rattle.sr_trimming.proofs.orders.reductions_see_sets.Goals as goal

pub returns : goal.returns
returns c = reduction_same
