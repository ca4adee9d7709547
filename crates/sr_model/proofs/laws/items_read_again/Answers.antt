use Rattle.sr_model.proofs.ItemsAgain.{items_again}
use Rattle.sr_model.proofs.laws.items_read_again.Goals as goal

pub returns : goal.returns
returns c = items_again
