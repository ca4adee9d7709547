use Rattle.std.proofs.Common.{refl, arith}
use Rattle.sr_load.proofs.Extending.{keeps_new}
use Rattle.sr_load.proofs.timeline.Timeline.new.Goals as goal

pub invariant_of-result : goal.invariant_of-result
invariant_of-result c =
    rw (c.new-2.ensures.items, c.new-3.ensures, c.new-4.ensures, c.new.ensures.items, c.new-5.ensures.items) (
      keeps_new c.args.formula c.hold_all.new.propagator c.hold_all.new.refs.items c.hold_all.new.flags.items c.count-reached.result c.in_ok-hold_all.ensures.ok c.count-reached.ensures.value c.count-reached.ensures.bound,
      record { within = omega arith; passes = refl },
    )
