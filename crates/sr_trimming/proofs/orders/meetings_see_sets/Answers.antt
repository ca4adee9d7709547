use Rattle.sr_trimming.proofs.Rewritten.{meets_same, over_same}
use Rattle.sr_trimming.proofs.orders.meetings_see_sets.Goals as goal

pub returns : goal.returns
returns c = λ strict live mem last s t r w. (meets_same strict live mem last s t r w, over_same strict live mem s t r w)
