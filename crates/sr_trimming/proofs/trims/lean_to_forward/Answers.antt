use Rattle.sr_trimming.proofs.Leanness.{lean_forward}
use Rattle.sr_trimming.proofs.trims.lean_to_forward.Goals as goal

pub returns : goal.returns
returns c = lean_forward
