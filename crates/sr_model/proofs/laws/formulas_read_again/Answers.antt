use Rattle.sr_model.proofs.FormulasAgain.{formulas_again}
use Rattle.sr_model.proofs.laws.formulas_read_again.Goals as goal

pub returns : goal.returns
returns c = formulas_again
