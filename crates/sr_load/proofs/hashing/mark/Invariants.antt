use Rattle.std.proofs.Common.{◌≡◌, cond, take}
use Rattle.sr_base.specs.Literal.{Literal, has}
use Rattle.sr_load.specs.Buckets.{marked}
use Rattle.sr_load.proofs.hashing.mark.Given as goal

abbrev pub invariant-loop-l : goal.invariant-loop-l
invariant-loop-l l = (k : Literal) → marked l.marks k ≡ cond (has k (take l.l-index l.lits)) l.to (marked l.fn.marks k)
