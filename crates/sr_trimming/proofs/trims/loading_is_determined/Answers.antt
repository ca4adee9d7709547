use Rattle.sr_trimming.proofs.Loaded.{loads_once}
use Rattle.sr_trimming.proofs.trims.loading_is_determined.Goals as goal

pub returns : goal.returns
returns c = loads_once
