use Rattle.std.proofs.Common.{sym, ◌∙◌, arith}
use Rattle.std.specs.BinaryHeap.{heap_items}
use Rattle.sr_watch.proofs.Heaps.{taken_was_there, greatest_from, other_stays}
use Rattle.sr_watch.proofs.queue.Queue.next_below.Goals as goal

pub returns-then-place-end : goal.returns-then-place-end
returns-then-place-end c = record {
  below = c.if-place-end.true;
  held = sym (c.loop-place.invariant.same c.in-Some.place c.if-place-end.true) ∙ taken_was_there c.in-Some.place (heap_items c.loop-place.self-inside.heap) (heap_items c.pop.new.self) c.in-Some.ensures.permutation;
  greatest = λ i lt h. greatest_from c.in-Some.place (heap_items c.loop-place.self-inside.heap) (heap_items c.pop.new.self) c.in-Some.ensures.permutation (c.in-Some.ensures.below_top c.loop-place.invariant.heap) i (c.loop-place.invariant.same i lt ∙ h);
  stays = λ i lt. other_stays c.in-Some.place (heap_items c.loop-place.self-inside.heap) (heap_items c.pop.new.self) c.in-Some.ensures.permutation i lt ∙ c.loop-place.invariant.same i (omega (arith, c.if-place-end.true));
}

pub loop-place-preserved : goal.loop-place-preserved
loop-place-preserved c = record {
  heap = (c.in-Some.ensures.heap_order c.loop-place.invariant.heap).0;
  same = λ i lt. other_stays c.in-Some.place (heap_items c.loop-place.self-inside.heap) (heap_items c.pop.new.self) c.in-Some.ensures.permutation i (omega (arith, c.if-place-end.false)) ∙ c.loop-place.invariant.same i lt;
}
