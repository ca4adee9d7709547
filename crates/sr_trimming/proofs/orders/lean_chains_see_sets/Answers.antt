use Rattle.sr_trimming.proofs.ProofsRewritten.{lean_same}
use Rattle.sr_trimming.proofs.orders.lean_chains_see_sets.Goals as goal

pub returns : goal.returns
returns c = lean_same
