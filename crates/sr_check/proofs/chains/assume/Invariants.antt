use Rattle.std.proofs.Common.{◌≡◌, ◌++◌, take}
use Rattle.sr_base.specs.Literal.{compl}
use Rattle.sr_check.specs.Ends.{KeepsFront}
use Rattle.sr_check.proofs.chains.assume.Given as goal

abbrev pub invariant-loop-l : goal.invariant-loop-l
invariant-loop-l l = record {
  lits : l.trail.lits ≡ l.fn.trail.lits ++ compl (take l.l-index l.lits);
  front : KeepsFront l.fn.trail l.trail;
}
