use Rattle.sr_model.proofs.Judged.{empty_sound}
use Rattle.sr_model.proofs.laws.empty_is_sound.Goals as goal

pub returns : goal.returns
returns c = empty_sound
