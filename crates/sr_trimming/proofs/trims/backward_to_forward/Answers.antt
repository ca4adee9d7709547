use Rattle.sr_trimming.proofs.Placed.{backward_forward}
use Rattle.sr_trimming.proofs.trims.backward_to_forward.Goals as goal

pub returns : goal.returns
returns c = backward_forward
