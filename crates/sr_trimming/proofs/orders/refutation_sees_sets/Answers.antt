use Rattle.sr_trimming.proofs.Rewritten.{refutes_same}
use Rattle.sr_trimming.proofs.orders.refutation_sees_sets.Goals as goal

pub returns : goal.returns
returns c = refutes_same
