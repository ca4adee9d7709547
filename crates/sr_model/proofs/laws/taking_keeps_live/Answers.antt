use Rattle.sr_model.proofs.Taken.{taking_live}
use Rattle.sr_model.proofs.laws.taking_keeps_live.Goals as goal

pub returns : goal.returns
returns c = taking_live
