use Rattle.sr_trimming.proofs.ProofsRewritten.{step_lean_same}
use Rattle.sr_trimming.proofs.orders.lean_steps_see_sets.Goals as goal

pub returns : goal.returns
returns c = step_lean_same
