use Rattle.std.proofs.Common.{take}
use Rattle.sr_base.specs.Literal.{compl}
use Rattle.sr_table.specs.Numbers.{KeepsHeld}
use Rattle.sr_occurs.specs.Occurring.{KeepsFor}
use Rattle.sr_occurs.specs.Candidates.{Gathers}
use Rattle.sr_occurs.proofs.candidates.gather_complements.Given as goal

abbrev pub invariant-loop-l : goal.invariant-loop-l
invariant-loop-l l = record {
  listed : KeepsFor l.table l.fn.lists l.lists;
  kept : KeepsHeld l.fn.numbers l.numbers;
  held : Gathers l.table l.fn.lists (compl (take l.l-index l.lits)) l.numbers;
}
