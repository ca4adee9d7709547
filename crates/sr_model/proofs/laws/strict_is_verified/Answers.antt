use Rattle.sr_model.proofs.Strictness.{strict_verified}
use Rattle.sr_model.proofs.laws.strict_is_verified.Goals as goal

pub returns : goal.returns
returns c = strict_verified
