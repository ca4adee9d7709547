use Rattle.std.proofs.Common.{◌-◌, List, ℕ, subst}
use Rattle.std.specs.BinaryHeap.{heap_items}
use Rattle.sr_back.specs.Queued.{Puts, from_top}
use Rattle.sr_back.proofs.Queues.{taken_from, above_from}
use Rattle.sr_back.proofs.queue.Queue.next.Goals as goal

pub returns-clause-taken : goal.returns-clause-taken
returns-clause-taken c = subst (λ (x : List ℕ). Puts (from_top (heap_items c.drop_copies.new.heap)) x (4294967295 - c.in_ok-top.top)) c.self.view_is
    (taken_from c.in_ok-top.top (heap_items c.self.inside.heap) (heap_items c.pop.new.self) (heap_items c.drop_copies.new.heap) c.in_ok-top.ensures.permutation c.drop_copies.ensures.stays)

pub returns-clause-least : goal.returns-clause-least
returns-clause-least c = above_from c.in_ok-top.top (heap_items c.drop_copies.new.heap) c.drop_copies.ensures.fits c.drop_copies.ensures.below
