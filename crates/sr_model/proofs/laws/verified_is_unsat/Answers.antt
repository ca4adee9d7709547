use Rattle.sr_model.proofs.Judged.{verified_unsat}
use Rattle.sr_model.proofs.laws.verified_is_unsat.Goals as goal

pub returns : goal.returns
returns c = verified_unsat
