use Rattle.std.proofs.Common.{◌≤◌, ◌+◌, length}
use Rattle.sr_watch.proofs.Units.{IsSettling}
use Rattle.sr_watch.proofs.Readings.{mets}
use Rattle.sr_watch.proofs.settling.settle_units.Given as goal

abbrev pub invariant-loop-watch : goal.invariant-loop-watch
invariant-loop-watch g l = record {
  settling : IsSettling l.core l.memory l.fn.lists l.lists l.fn.trail l.trail l.shade l.top;
  ticks : l.steps + mets l.core l.memory l.fn.trail.lits ≤ l.fn.steps + mets l.core l.memory l.trail.lits;
}

abbrev pub decreases-loop-watch : goal.decreases-loop-watch
decreases-loop-watch g l = length l.lists.ahead
