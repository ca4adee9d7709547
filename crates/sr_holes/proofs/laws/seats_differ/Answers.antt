use Rattle.sr_holes.proofs.Seats.{seats_are}
use Rattle.sr_holes.proofs.laws.seats_differ.Goals as goal

pub returns : goal.returns
returns c = seats_are
