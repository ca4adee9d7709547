use Rattle.sr_base.specs.Literal.{NoRepeats}
use Rattle.sr_arena.specs.Cells.{cell_at}
use Rattle.sr_watch.specs.Attaching.{IsArranged}
use Rattle.sr_watch.proofs.Choosing.{IsRaising}
use Rattle.sr_watch.proofs.attaching.raise.Given as goal

abbrev pub invariant-loop-i : goal.invariant-loop-i
invariant-loop-i g l = record {
  arranged : IsArranged l.at l.fn.memory l.memory;
  distinct : NoRepeats (cell_at l.memory l.at).lits;
  raising : IsRaising l.trail.lits (cell_at l.fn.memory l.at).lits (cell_at l.memory l.at).lits l.place l.i;
}
