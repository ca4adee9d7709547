use Rattle.sr_model.proofs.FilesAgain.{item_files_again}
use Rattle.sr_model.proofs.laws.item_files_read_again.Goals as goal

pub returns : goal.returns
returns c = item_files_again
