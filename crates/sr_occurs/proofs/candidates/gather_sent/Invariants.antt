use Rattle.std.proofs.Common.{take}
use Rattle.sr_table.specs.Numbers.{KeepsHeld}
use Rattle.sr_occurs.specs.Occurring.{KeepsFor}
use Rattle.sr_occurs.specs.Candidates.{Gathers, sent_literals}
use Rattle.sr_occurs.proofs.candidates.gather_sent.Given as goal

abbrev pub invariant-loop-from : goal.invariant-loop-from
invariant-loop-from l = record {
  listed : KeepsFor l.table l.fn.lists l.lists;
  kept : KeepsHeld l.fn.numbers l.numbers;
  held : Gathers l.table l.fn.lists (sent_literals (take l.from-index l.maps)) l.numbers;
}
