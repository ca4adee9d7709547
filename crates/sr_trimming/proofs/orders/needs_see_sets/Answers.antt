use Rattle.sr_model.specs.Substitution.{reduction}
use Rattle.sr_trimming.proofs.Reordered.{reduction_same}
use Rattle.sr_trimming.proofs.Rewritten.{needs_same}
use Rattle.sr_trimming.proofs.orders.needs_see_sets.Goals as goal

pub returns : goal.returns
returns c = λ w a b c d s e. needs_same a b (reduction w c) (reduction w d) s (reduction_same w c d e)
