use Rattle.std.proofs.Common.{◌≤◌, ℕ}
use Rattle.sr_watch.specs.Marks.{joined}
use Rattle.sr_watch.specs.Collecting.{IsCollecting, IsListed}
use Rattle.sr_watch.proofs.chains.collect_above.Given as goal

abbrev pub invariant-loop-place : goal.invariant-loop-place
invariant-loop-place g l = record {
  above : l.base ≤ l.place;
  below : l.place ≤ l.fn.end;
  collecting : (at : ℕ) → IsCollecting (joined l.trail l.memory) at l.fn.end l.fn.chain → IsCollecting (joined l.trail l.memory) at l.place l.chain;
  listed : IsListed (joined l.trail l.memory) l.base l.chain l.needed.marks l.needed.queue;
}

abbrev pub decreases-loop-place : goal.decreases-loop-place
decreases-loop-place g l = l.place
