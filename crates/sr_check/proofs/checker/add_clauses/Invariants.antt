use Rattle.std.proofs.Common.{◌≡◌, ◌+◌, take}
use Rattle.sr_model.specs.Judging.{cells_of}
use Rattle.sr_check.proofs.Checks.{IsAdded}
use Rattle.sr_check.proofs.checker.add_clauses.Given as goal

abbrev pub invariant-loop-i : goal.invariant-loop-i
invariant-loop-i l = record {
  lits : l.trail.lits ≡ l.fn.trail.lits;
  added : IsAdded l.formula.clauses l.i l.live.clauses l.trail.room;
  last : l.live.last ≡ l.i;
  most : l.live.most ≡ l.fn.live.most;
  used : l.live.used ≡ l.fn.live.used + cells_of (take l.i l.formula.clauses);
}
