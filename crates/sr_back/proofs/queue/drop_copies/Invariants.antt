use Rattle.std.proofs.Common.{◌≡◌, ◌∷◌, ℕ, Bool}
use Rattle.std.specs.List.{list_any}
use Rattle.std.specs.BinaryHeap.{heap_items, heap_len, IsHeap, IsUpperBound}
use Rattle.std.specs.Ordering.{nat_cmp}
use Rattle.sr_back.proofs.queue.drop_copies.Given as goal

abbrev pub invariant-loop-next : goal.invariant-loop-next
invariant-loop-next l = record {
  heap : IsHeap nat_cmp (heap_items l.heap);
  most : IsUpperBound nat_cmp l.top (heap_items l.heap);
  stays : (p : ℕ → Bool) → list_any p (l.top ∷ heap_items l.heap) ≡ list_any p (l.top ∷ heap_items l.fn.heap);
}

abbrev pub decreases-loop-next : goal.decreases-loop-next
decreases-loop-next l = heap_len l.heap
