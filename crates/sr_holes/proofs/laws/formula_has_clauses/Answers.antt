use Rattle.sr_holes.proofs.Members.{has_clauses}
use Rattle.sr_holes.proofs.laws.formula_has_clauses.Goals as goal

pub returns : goal.returns
returns c = has_clauses
