use Rattle.std.proofs.Common.{sym}
use Rattle.sr_wit.proofs.WitnessLemmas.{distinct_same}
use Rattle.sr_wit.proofs.reduce.keep_distinct.Goals as goal

pub returns-in-Apart : goal.returns-in-Apart
returns-in-Apart c =
    let apart = rw (c.in-Apart.is, c.as_slice.ensures) at c.in_ok-likeness_of.ensures in
    (apart.0, sym (distinct_same c.args.out.now apart.1))
