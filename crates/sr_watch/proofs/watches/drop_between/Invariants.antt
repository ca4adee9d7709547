use Rattle.sr_watch.proofs.Rises.{IsReduced}
use Rattle.sr_watch.proofs.watches.drop_between.Given as goal

abbrev pub invariant-loop-i : goal.invariant-loop-i
invariant-loop-i l = IsReduced l.fn.kept.items l.kept.items l.low l.high l.left l.i
