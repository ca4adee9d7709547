use Rattle.sr_model.proofs.ReadPivots.{read_items_have_pivots}
use Rattle.sr_model.proofs.laws.read_items_have_pivots.Goals as goal

pub returns : goal.returns
returns c = read_items_have_pivots
