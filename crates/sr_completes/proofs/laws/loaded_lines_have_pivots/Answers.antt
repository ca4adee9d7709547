use Rattle.sr_completes.proofs.Rejecting.{loaded_pivots}
use Rattle.sr_completes.proofs.laws.loaded_lines_have_pivots.Goals as goal

pub returns : goal.returns
returns c = loaded_pivots
