use Rattle.std.proofs.Common.{List, ℕ, subst}
use Rattle.std.specs.BinaryHeap.{heap_items}
use Rattle.sr_watch.specs.Queued.{IsPut}
use Rattle.sr_watch.proofs.Heaps.{put_from}
use Rattle.sr_watch.proofs.queue.Queue.put.Goals as goal

pub returns-clause-ok : goal.returns-clause-ok
returns-clause-ok c = subst (λ (x : List ℕ). IsPut x (heap_items c.push.new.self) c.args.place) c.self.view_is (put_from c.args.place (heap_items c.self.inside.heap) (heap_items c.push.new.self) c.in-Ok.ensures.permutation)
