use Rattle.sr_trimming.proofs.Written.{written_verified}
use Rattle.sr_trimming.proofs.trims.written_is_verified.Goals as goal

pub returns : goal.returns
returns c = written_verified
