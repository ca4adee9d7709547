use Rattle.sr_model.proofs.Moved.{redundant_sound}
use Rattle.sr_model.proofs.laws.redundancy_is_sound.Goals as goal

pub returns : goal.returns
returns c = redundant_sound
