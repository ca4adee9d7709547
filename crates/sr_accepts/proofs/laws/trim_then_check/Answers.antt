use Rattle.sr_accepts.proofs.Running.{trim_then_check}
use Rattle.sr_accepts.proofs.laws.trim_then_check.Goals as goal

pub returns : goal.returns
returns c = trim_then_check
