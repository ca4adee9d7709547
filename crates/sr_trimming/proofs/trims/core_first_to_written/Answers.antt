use Rattle.sr_trimming.proofs.Written.{core_first_written}
use Rattle.sr_trimming.proofs.trims.core_first_to_written.Goals as goal

pub returns : goal.returns
returns c = core_first_written
