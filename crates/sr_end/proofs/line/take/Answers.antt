use Rattle.std.proofs.Common.{refl}
use Rattle.std.specs.Vec.Iter.{into_iter_items}
use Rattle.std.proofs.lemmas.Iterator.{items_from_collect}
use Rattle.std.proofs.lemmas.Iterator.Adapters.{YieldsList-from_vec}
use Rattle.sr_end.proofs.line.take.Goals as goal

pub returns-in-Ok-collect : goal.returns-in-Ok-collect
returns-in-Ok-collect c =
    let all = items_from_collect c.collect.result c.collect.ensures.ran (YieldsList-from_vec (into_iter_items c.in-Ok.args) refl c.in-Ok.args.rest.ok.0) in
    rw c.in-Ok.is (rw c.in-Ok-collect.is at all)
