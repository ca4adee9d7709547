use Rattle.sr_trimming.proofs.Leanness.{lean_met}
use Rattle.sr_trimming.proofs.trims.lean_is_met.Goals as goal

pub returns : goal.returns
returns c = lean_met
