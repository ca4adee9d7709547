use Rattle.std.proofs.Common.{◌≤◌, length, drop}
use Rattle.sr_watch.specs.Marks.{joined, AreMarkedAtMost}
use Rattle.sr_watch.specs.Trail.{table_size}
use Rattle.sr_watch.proofs.needed.unmark.Given as goal

abbrev pub invariant-loop-at : goal.invariant-loop-at
invariant-loop-at g l = record {
  marked : AreMarkedAtMost (joined l.trail l.memory) (drop l.at-index l.chain) l.marks;
  room : table_size l.trail.vars ≤ length l.marks;
}
