use Rattle.sr_trimming.proofs.Leanness.{lean_trimmed}
use Rattle.sr_trimming.proofs.trims.trimmed_by_need.Goals as goal

pub returns : goal.returns
returns c = lean_trimmed
