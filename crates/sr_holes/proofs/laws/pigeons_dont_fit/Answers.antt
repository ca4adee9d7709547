use Rattle.sr_holes.proofs.Seating.{dont_fit}
use Rattle.sr_holes.proofs.laws.pigeons_dont_fit.Goals as goal

pub returns : goal.returns
returns c = dont_fit
