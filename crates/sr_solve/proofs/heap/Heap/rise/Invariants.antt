use Rattle.std.proofs.Common.{◌≡◌, ◌<◌}
use Rattle.sr_solve.proofs.heap.Heap.rise.Given as goal

abbrev pub invariant-up : goal.invariant-up
invariant-up l = record {
  same : l.self ≡ l.fn.self;
  within : l.here < l.self;
}

abbrev pub decreases-up : goal.decreases-up
decreases-up l = l.here
