use Rattle.std.proofs.Common.{arith, ap, ◌∙◌}
use Rattle.sr_watch.specs.State.{State}
use Rattle.sr_load.proofs.Rooms.{room_more}
use Rattle.sr_load.proofs.room.make_room_for.Goals as goal

pub loop-l-preserved : goal.loop-l-preserved
loop-l-preserved c =
    let made = c.in_ok-make_room.ensures in record {
      room = room_more c.loop-l.propagator.vars c.make_room.new.propagator.vars c.args.lits.now c.loop-l.l-index c.l-item.result c.loop-l-test.true c.l-item.is c.loop-l.invariant.room made.more (omega (arith, made.room, c.var.ensures.value));
      more = omega (arith, made.more, c.loop-l.invariant.more);
      same = made.same ∙ ap (λ (s : State). record s { vars = c.make_room.new.propagator.vars }) c.loop-l.invariant.same;
    }
