use Rattle.std.proofs.Common.{◌≡◌, drop}
use Rattle.sr_watch.specs.State.{reason_in}
use Rattle.sr_watch.proofs.scanning.reason_of.Given as goal

abbrev pub invariant-loop-i : goal.invariant-loop-i
invariant-loop-i l = reason_in (drop l.i l.trail) (drop l.i l.reasons) l.var ≡ reason_in l.trail l.reasons l.var
