use Rattle.sr_model.proofs.Taken.{rejection_live}
use Rattle.sr_model.proofs.laws.rejection_keeps_live.Goals as goal

pub returns : goal.returns
returns c = rejection_live
