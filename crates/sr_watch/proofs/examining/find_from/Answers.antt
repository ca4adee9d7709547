use Rattle.std.proofs.Common.{ap, arith}
use Rattle.sr_base.specs.Literal.{variable}
use Rattle.sr_watch.proofs.Tables.{in_list}
use Rattle.sr_watch.proofs.Marking.{variable_complement}
use Rattle.sr_watch.proofs.examining.find_from.Goals as goal

pub is_true-requires : goal.is_true-requires
is_true-requires c =
    let w = c.requires.within c.index-clause-place.result (in_list c.args.clause.now c.loop-place.place c.index-clause-place.result (omega arith) c.index-clause-place.is) in
    omega (arith, w, variable_complement c.index-clause-place.result, ap variable c.neg.ensures.value)
