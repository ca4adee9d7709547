use Rattle.sr_trimming.proofs.ProofsRewritten.{judge_same}
use Rattle.sr_trimming.proofs.orders.judging_sees_sets.Goals as goal

pub returns : goal.returns
returns c = judge_same
