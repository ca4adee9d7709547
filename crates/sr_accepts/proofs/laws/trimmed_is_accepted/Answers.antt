use Rattle.sr_accepts.proofs.Accepts.{accepted}
use Rattle.sr_accepts.proofs.laws.trimmed_is_accepted.Goals as goal

pub returns : goal.returns
returns c = accepted
