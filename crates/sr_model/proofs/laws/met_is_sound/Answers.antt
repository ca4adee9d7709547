use Rattle.sr_model.proofs.Judged.{item_sound}
use Rattle.sr_model.proofs.laws.met_is_sound.Goals as goal

pub returns : goal.returns
returns c = item_sound
