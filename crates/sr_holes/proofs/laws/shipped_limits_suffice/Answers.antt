use Rattle.sr_holes.proofs.Lengths.{limits_suffice}
use Rattle.sr_holes.proofs.laws.shipped_limits_suffice.Goals as goal

pub returns : goal.returns
returns c = limits_suffice
