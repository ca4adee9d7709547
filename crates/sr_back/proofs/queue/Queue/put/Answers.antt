use Rattle.std.proofs.Common.{◌-◌, List, ℕ, subst, arith}
use Rattle.std.specs.BinaryHeap.{heap_items}
use Rattle.sr_back.specs.Queued.{Puts, from_top}
use Rattle.sr_back.proofs.Queues.{put_from}
use Rattle.sr_back.proofs.queue.Queue.put.Goals as goal

pub returns-clause-puts : goal.returns-clause-puts
returns-clause-puts c = subst (λ (x : List ℕ). Puts x (from_top (heap_items c.push.new.self)) c.args.id) c.self.view_is
    (put_from (4294967295 - c.args.id) c.args.id (heap_items c.self.inside.heap) (heap_items c.push.new.self) (omega (arith, c.ranges.id.fits)) c.in-Ok.ensures.permutation)
