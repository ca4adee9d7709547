use Rattle.std.proofs.Common.{◌≡◌, true, take}
use Rattle.sr_base.specs.Literal.{Literal, complement, has}
use Rattle.sr_watch.specs.Collecting.{Awaits, KeepsPlaces}
use Rattle.sr_watch.proofs.needed.enqueue.Given as goal

abbrev pub invariant-loop-k : goal.invariant-loop-k
invariant-loop-k l = record {
  keeps : KeepsPlaces l.fn.queue l.queue;
  awaits : (k : Literal) → has (complement k) (take l.k-index l.clause) ≡ true → Awaits l.trail.lits l.marks l.below l.queue k;
}
