use Rattle.std.proofs.Common.{true, false, length, take}
use Rattle.sr_watch.specs.Trail.{Entries}
use Rattle.sr_watch.proofs.Attached.{room_kept}
use Rattle.sr_watch.proofs.cutting.cut.Goals as goal

pub returns-clause-watched : goal.returns-clause-watched
returns-clause-watched c known y =
    let e : Entries = record c.args.trail.now { reasons = take c.args.mark c.args.trail.now.reasons } in
    rw c.cut.ensures (record {
      counted = y.counted;
      core_rests = c.fall_back.ensures.rests true c.args.memory.now e c.requires.mark c.unsee_reasons.ensures.resting;
      rest_rests = c.fall_back-2.ensures.rests false c.args.memory.now e c.requires.mark c.unsee_reasons-2.ensures.resting;
      core_room = room_kept (length known) c.unsee_reasons.new.watches.lists c.fall_back.new.self.lists c.fall_back.ensures.shape
          (room_kept (length known) c.args.core.now.lists c.unsee_reasons.new.watches.lists c.unsee_reasons.ensures.shape y.core_room);
      rest_room = room_kept (length known) c.unsee_reasons-2.new.watches.lists c.fall_back-2.new.self.lists c.fall_back-2.ensures.shape
          (room_kept (length known) c.args.rest.now.lists c.unsee_reasons-2.new.watches.lists c.unsee_reasons-2.ensures.shape y.rest_room);
    })
