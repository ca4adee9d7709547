use Rattle.sr_laws.proofs.Parted.{blocks_cover}
use Rattle.sr_laws.proofs.parts.all_parts_cover.Goals as goal

pub returns : goal.returns
returns c = blocks_cover
