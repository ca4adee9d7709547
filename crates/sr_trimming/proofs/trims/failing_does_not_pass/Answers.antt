use Rattle.sr_trimming.proofs.Evidence.{does_not_pass}
use Rattle.sr_trimming.proofs.trims.failing_does_not_pass.Goals as goal

pub returns : goal.returns
returns c = does_not_pass
