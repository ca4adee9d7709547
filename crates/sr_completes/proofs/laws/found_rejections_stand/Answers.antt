use Rattle.sr_completes.proofs.Rejecting.{found_rejections_stand}
use Rattle.sr_completes.proofs.laws.found_rejections_stand.Goals as goal

pub returns : goal.returns
returns c = found_rejections_stand
