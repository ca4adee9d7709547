use Rattle.sr_trimming.proofs.Reordered.{chain_same}
use Rattle.sr_trimming.proofs.orders.chains_see_sets.Goals as goal

pub returns : goal.returns
returns c = chain_same
