use Rattle.sr_model.proofs.Soundness.{refutes_sound}
use Rattle.sr_model.proofs.laws.refutation_is_sound.Goals as goal

pub returns : goal.returns
returns c = refutes_sound
