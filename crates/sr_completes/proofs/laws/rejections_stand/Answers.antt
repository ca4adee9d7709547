use Rattle.sr_completes.proofs.Rejecting.{rejections_stand}
use Rattle.sr_completes.proofs.laws.rejections_stand.Goals as goal

pub returns : goal.returns
returns c = rejections_stand
