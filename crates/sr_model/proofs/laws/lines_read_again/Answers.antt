use Rattle.sr_model.proofs.LinesAgain.{lines_again}
use Rattle.sr_model.proofs.laws.lines_read_again.Goals as goal

pub returns : goal.returns
returns c = lines_again
