use Rattle.std.proofs.Common.{IsTrue}
use Rattle.sr_desk.specs.Outside.{can_write}
use Rattle.sr_placing.proofs.tests.put_many.Given as goal

abbrev pub invariant-loop : goal.invariant-loop
invariant-loop g l = IsTrue (can_write (g.D.Desk.outside l.desk) l.buffer.slot)
