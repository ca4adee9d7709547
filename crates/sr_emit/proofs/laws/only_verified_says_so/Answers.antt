use Rattle.sr_emit.proofs.Verified.{says_so}
use Rattle.sr_emit.proofs.laws.only_verified_says_so.Goals as goal

pub returns : goal.returns
returns c = says_so
