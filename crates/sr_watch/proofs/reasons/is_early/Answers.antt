use Rattle.std.proofs.Common.{arith}
use Rattle.sr_watch.proofs.Places.{place_true}
use Rattle.sr_watch.proofs.reasons.is_early.Goals as goal

pub returns : goal.returns
returns c t = place_true c.args.trail.now.lits c.args.l c.args.count (omega (arith, c.place-place.ensures)) (omega (arith, c.place-place.ensures))
