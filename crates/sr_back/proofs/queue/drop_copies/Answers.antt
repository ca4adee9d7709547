use Rattle.std.proofs.Common.{◌∙◌, ◌≡◌, subst}
use Rattle.std.specs.Prelude.{slice_index_or, IfNone}
use Rattle.std.specs.BinaryHeap.{heap_items}
use Rattle.sr_back.proofs.Queues.{IsDropped, dropped, stays_heap, bound_of, heap_of, same_of}
use Rattle.sr_back.proofs.queue.drop_copies.Goals as goal

pub loop-next-preserved : goal.loop-next-preserved
loop-next-preserved c =
    let was = heap_items c.loop-next.heap in
    let now = heap_items c.pop-copy.new.self in
    let same : IfNone c.pop-copy.result (now ≡ was) = same_of c.pop-copy.result was now _ c.pop-copy.ensures.unchanged in
    let first : c.args.top ≡ slice_index_or was 0 c.args.top = subst (λ k. k ≡ slice_index_or was 0 k) c.if-next-top.false c.in-Some.ensures.lookup in
    let d : IsDropped c.args.top was now = dropped c.args.top c.pop-copy.result was now c.pop-copy.ensures.permutation c.pop-copy.ensures.top first
    (bound_of c.pop-copy.result was now c.loop-next.invariant.heap c.pop-copy.ensures.below_top) same c.loop-next.invariant.most in
    record {
      heap = stays_heap c.pop-copy.result was now (heap_of c.pop-copy.result was now c.loop-next.invariant.heap c.pop-copy.ensures.heap_order) same c.loop-next.invariant.heap;
      most = d.most;
      stays = λ p. d.stays p ∙ c.loop-next.invariant.stays p;
    }
