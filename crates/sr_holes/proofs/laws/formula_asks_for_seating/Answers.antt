use Rattle.sr_holes.proofs.Seating.{seats_from, seating_satisfies}
use Rattle.sr_holes.proofs.laws.formula_asks_for_seating.Goals as goal

pub returns : goal.returns
returns c = λ n t. (seats_from n t, seating_satisfies n t)
