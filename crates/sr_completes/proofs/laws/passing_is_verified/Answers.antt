use Rattle.sr_completes.proofs.Completing.{passing_verified}
use Rattle.sr_completes.proofs.laws.passing_is_verified.Goals as goal

pub returns : goal.returns
returns c = passing_verified
