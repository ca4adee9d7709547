use Rattle.std.proofs.Common.{◌≡◌, ℕ, ◌<◌}
use Rattle.std.specs.BinaryHeap.{heap_items, heap_len, IsHeap}
use Rattle.std.specs.Ordering.{nat_cmp}
use Rattle.sr_model.specs.Assignment.{holds_number}
use Rattle.sr_watch.proofs.queue.Queue.next_below.Given as goal

abbrev pub invariant-loop-place : goal.invariant-loop-place
invariant-loop-place l = record {
  heap : IsHeap nat_cmp (heap_items l.self-inside.heap);
  same : (i : ℕ) → i < l.end → holds_number i (heap_items l.self-inside.heap) ≡ holds_number i l.fn.self;
}

abbrev pub decreases-loop-place : goal.decreases-loop-place
decreases-loop-place l = heap_len l.self-inside.heap
