use Rattle.sr_model.proofs.FilesAgain.{line_files_again}
use Rattle.sr_model.proofs.laws.line_files_read_again.Goals as goal

pub returns : goal.returns
returns c = line_files_again
