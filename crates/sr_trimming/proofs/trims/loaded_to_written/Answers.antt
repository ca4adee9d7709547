use Rattle.sr_trimming.proofs.Written.{loaded_written}
use Rattle.sr_trimming.proofs.trims.loaded_to_written.Goals as goal

pub returns : goal.returns
returns c = loaded_written
