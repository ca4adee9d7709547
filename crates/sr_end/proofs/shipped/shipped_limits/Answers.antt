use Rattle.std.proofs.Common.{refl}
use Rattle.sr_end.proofs.shipped.shipped_limits.Goals as goal

pub returns : goal.returns
returns c = record { vars = refl; ids = refl; cells = refl; bytes = refl }
