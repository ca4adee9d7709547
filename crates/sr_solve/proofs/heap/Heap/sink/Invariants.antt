use Rattle.std.proofs.Common.{◌≡◌, ◌<◌, ◌-◌}
use Rattle.sr_solve.proofs.heap.Heap.sink.Given as goal

abbrev pub invariant-down : goal.invariant-down
invariant-down l = record {
  same : l.self ≡ l.fn.self;
  within : l.here < l.self;
}

abbrev pub decreases-down : goal.decreases-down
decreases-down l = l.self - l.here
