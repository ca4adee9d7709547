use Rattle.sr_model.proofs.Soundness.{refuted_holds}
use Rattle.sr_model.proofs.laws.rup_holds.Goals as goal

pub returns : goal.returns
returns c = refuted_holds
