use Rattle.sr_model.proofs.Moved.{keeps}
use Rattle.sr_model.proofs.laws.redundancy_keeps.Goals as goal

pub returns : goal.returns
returns c = keeps
