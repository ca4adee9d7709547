use Rattle.sr_model.proofs.Taken.{verification_live}
use Rattle.sr_model.proofs.laws.verification_keeps_live.Goals as goal

pub returns : goal.returns
returns c = verification_live
