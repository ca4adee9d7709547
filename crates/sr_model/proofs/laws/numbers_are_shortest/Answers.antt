use Rattle.sr_model.proofs.NumberTexts.{number_shortest}
use Rattle.sr_model.proofs.laws.numbers_are_shortest.Goals as goal

pub returns : goal.returns
returns c = number_shortest
