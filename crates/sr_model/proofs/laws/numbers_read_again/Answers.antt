use Rattle.sr_model.proofs.NumberTexts.{decimal_said, number_said_again}
use Rattle.sr_model.proofs.laws.numbers_read_again.Goals as goal

pub returns : goal.returns
returns c = λ x h. (decimal_said x h, number_said_again x h)
