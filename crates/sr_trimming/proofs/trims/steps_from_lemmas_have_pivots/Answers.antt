use Rattle.sr_trimming.proofs.Origins.{from_pivots}
use Rattle.sr_trimming.proofs.trims.steps_from_lemmas_have_pivots.Goals as goal

pub returns : goal.returns
returns c = from_pivots
