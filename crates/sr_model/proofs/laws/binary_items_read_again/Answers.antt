use Rattle.sr_model.proofs.ItemsAgain.{binary_items_again}
use Rattle.sr_model.proofs.laws.binary_items_read_again.Goals as goal

pub returns : goal.returns
returns c = binary_items_again
