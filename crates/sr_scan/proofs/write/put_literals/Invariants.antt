use Rattle.std.proofs.Common.{◌≡◌, ◌++◌, length, take}
use Rattle.sr_scan.specs.Written.{written_literals}
use Rattle.sr_scan.proofs.write.put_literals.Given as goal

abbrev pub invariant-loop-l : goal.invariant-loop-l
invariant-loop-l l = record {
  written : l.out ≡ l.fn.out ++ written_literals l.form (take l.l-index l.lits);
  before : l.before ≡ length l.fn.out;
}
