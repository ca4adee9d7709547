use Rattle.sr_completes.proofs.Completing.{passing_trimmed}
use Rattle.sr_completes.proofs.laws.passing_is_trimmed.Goals as goal

pub returns : goal.returns
returns c = passing_trimmed
