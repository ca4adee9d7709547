use Rattle.sr_trimming.proofs.Written.{lean_written}
use Rattle.sr_trimming.proofs.trims.lean_to_written.Goals as goal

pub returns : goal.returns
returns c = lean_written
