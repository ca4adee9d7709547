use Rattle.std.proofs.Common.{◌≡◌, true, take}
use Rattle.std.specs.List.{list_all}
use Rattle.sr_load.specs.Buckets.{marked}
use Rattle.sr_load.proofs.hashing.are_marked.Given as goal

abbrev pub invariant-loop-l : goal.invariant-loop-l
invariant-loop-l l = list_all (marked l.marks) (take l.l-index l.lits) ≡ true
