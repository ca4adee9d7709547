use Rattle.sr_model.proofs.FormulasSpelled.{read_is_spelled, spelled_is_read}
use Rattle.sr_model.proofs.laws.formulas_are_spelled.Goals as goal

pub returns : goal.returns
returns c lim tokens f rest = (read_is_spelled lim tokens f rest, spelled_is_read lim tokens f rest)
