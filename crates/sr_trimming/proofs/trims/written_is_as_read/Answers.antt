use Rattle.sr_trimming.proofs.Written.{written_as_read}
use Rattle.sr_trimming.proofs.trims.written_is_as_read.Goals as goal

pub returns : goal.returns
returns c = written_as_read
