use Rattle.std.proofs.Common.{◌≡◌, ◌≤◌, take}
use Rattle.sr_watch.specs.State.{AreWithin}
use Rattle.sr_load.proofs.room.make_room_for.Given as goal

abbrev pub invariant-loop-l : goal.invariant-loop-l
invariant-loop-l l = record {
  room : AreWithin l.propagator.vars (take l.l-index l.lits);
  more : l.fn.propagator.vars ≤ l.propagator.vars;
  same : l.propagator ≡ record l.fn.propagator { vars = l.propagator.vars };
}
