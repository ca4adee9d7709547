use Rattle.sr_trimming.proofs.Evidence.{is_needed}
use Rattle.sr_trimming.proofs.trims.failing_is_needed.Goals as goal

pub returns : goal.returns
returns c = is_needed
