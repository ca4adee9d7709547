use Rattle.sr_model.proofs.FormulasAgain.{selections_again}
use Rattle.sr_model.proofs.laws.selections_read_again.Goals as goal

pub returns : goal.returns
returns c = selections_again
