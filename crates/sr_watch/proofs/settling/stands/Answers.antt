use Rattle.std.proofs.Common.{ℕ, ap, arith, length}
use Rattle.sr_watch.proofs.Places.{place_le}
use Rattle.sr_watch.proofs.settling.stands.Goals as goal

pub bounds-reasons-place : goal.bounds-reasons-place
bounds-reasons-place c = let sizes = c.reasons.ensures.entries.sizes in omega (arith, place_le c.args.trail.now.lits c.args.l, ap (length {A = ℕ}) c.reasons.ensures.value)
