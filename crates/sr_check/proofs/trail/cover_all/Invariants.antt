use Rattle.std.proofs.Common.{◌≡◌, ◌≤◌, take}
use Rattle.sr_check.specs.Trail.{CoversAll}
use Rattle.sr_check.proofs.trail.cover_all.Given as goal

abbrev pub invariant-loop-l : goal.invariant-loop-l
invariant-loop-l l = record {
  lits : l.trail.lits ≡ l.fn.trail.lits;
  room : l.fn.trail.room ≤ l.trail.room;
  covered : CoversAll l.trail.room (take l.l-index l.lits);
}
