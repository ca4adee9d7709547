use Rattle.std.proofs.Common.{arith, ◌∙◌}
use Rattle.sr_check.proofs.Checks.{covered_step}
use Rattle.sr_check.proofs.trail.cover_all.Goals as goal

pub loop-l-preserved : goal.loop-l-preserved
loop-l-preserved c = record {
  lits = c.in_ok-cover.ensures.lits ∙ c.loop-l.invariant.lits;
  room = omega (arith, c.loop-l.invariant.room, c.in_ok-cover.ensures.room);
  covered = covered_step c.loop-l.trail.room c.cover.new.self.room c.args.lits.now c.loop-l.l-index c.l-item.result c.in_ok-cover.ensures.room (omega arith) c.l-item.is c.loop-l.invariant.covered c.in_ok-cover.ensures.ok;
}
