use Rattle.std.proofs.Common.{take}
use Rattle.sr_load.specs.Buckets.{AreClear, HaveRoom}
use Rattle.sr_load.proofs.hashing.cover.Given as goal

abbrev pub invariant-loop-l : goal.invariant-loop-l
invariant-loop-l l = record {
  clear : AreClear l.marks.items;
  room : HaveRoom l.marks.items (take l.l-index l.lits);
}
