use Rattle.std.proofs.Common.{◌≤◌, ℕ}
use Rattle.sr_watch.specs.Marks.{joined}
use Rattle.sr_watch.specs.Collecting.{IsCollecting, IsListed}
use Rattle.sr_watch.proofs.chains.collect_below.Given as goal

abbrev pub invariant-loop-next : goal.invariant-loop-next
invariant-loop-next g l = record {
  below : l.place ≤ l.fn.base;
  collecting : (at : ℕ) → IsCollecting (joined l.trail l.memory) at l.fn.base l.fn.chain → IsCollecting (joined l.trail l.memory) at l.place l.chain;
  listed : IsListed (joined l.trail l.memory) l.place l.chain l.needed.marks l.needed.queue;
}

abbrev pub decreases-loop-next : goal.decreases-loop-next
decreases-loop-next g l = l.place
