use Rattle.sr_trimming.proofs.Evidence.{never_fails}
use Rattle.sr_trimming.proofs.trims.passing_never_fails.Goals as goal

pub returns : goal.returns
returns c = never_fails
