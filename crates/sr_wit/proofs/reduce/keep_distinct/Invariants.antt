use Rattle.std.proofs.Common.{◌≡◌, take}
use Rattle.sr_wit.proofs.reduce.keep_distinct.Given as goal

abbrev pub invariant-loop-l : goal.invariant-loop-l
invariant-loop-l l = l.out ≡ take l.l-index l.l-items
