use Rattle.sr_model.proofs.LinesAgain.{binary_lines_again}
use Rattle.sr_model.proofs.laws.binary_lines_read_again.Goals as goal

pub returns : goal.returns
returns c = binary_lines_again
