use Rattle.std.proofs.Common.{◌≡◌, ◌<◌, List, false, ◌++◌, ℕ, length, IsTrue}
use Rattle.sr_desk.specs.Outside.{OnlyWrites, can_write}
use Rattle.sr_desk.specs.Calls.{Sends}
use Rattle.sr_desk.proofs.put.put_all.Given as goal

abbrev pub invariant-loop-rest : goal.invariant-loop-rest
invariant-loop-rest g l = record {
  can : IsTrue (can_write (g.D.Desk.outside l.desk) l.slot.number);
  only : OnlyWrites l.slot.number (g.D.Desk.outside l.fn.desk) (g.D.Desk.outside l.desk);
  sent : (sent : List ℕ) × (l.bytes ≡ sent ++ l.rest) × Sends ((g.D.Desk.outside l.fn.desk).slot l.slot.number) ((g.D.Desk.outside l.desk).slot l.slot.number) sent;
  finished : length l.rest < length l.bytes → ((g.D.Desk.outside l.desk).slot l.slot.number).finished ≡ false;
}

abbrev pub decreases-loop-rest : goal.decreases-loop-rest
decreases-loop-rest g l = length l.rest
