use Rattle.sr_trimming.proofs.Leanness.{trimmed_verified}
use Rattle.sr_trimming.proofs.trims.trimmed_is_verified.Goals as goal

pub returns : goal.returns
returns c = trimmed_verified
