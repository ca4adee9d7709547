use Rattle.sr_model.proofs.Taken.{taken_judged}
use Rattle.sr_model.proofs.laws.taking_judges.Goals as goal

pub returns : goal.returns
returns c = taken_judged
