use Rattle.std.proofs.Common.{take}
use Rattle.sr_check.specs.Indexing.{IsWithin, IsIndex}
use Rattle.sr_check.proofs.groups.build.Given as goal

abbrev pub invariant-loop-i : goal.invariant-loop-i
invariant-loop-i l = record {
  index : IsIndex l.index l.live (take l.i l.groups);
  within : IsWithin l.index (take l.i l.groups);
}
