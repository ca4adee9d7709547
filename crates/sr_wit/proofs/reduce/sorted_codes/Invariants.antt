use Rattle.std.proofs.Common.{◌≡◌, map, take}
use Rattle.sr_base.specs.Literal.{literal_code}
use Rattle.sr_wit.proofs.reduce.sorted_codes.Given as goal

abbrev pub invariant-loop-l : goal.invariant-loop-l
invariant-loop-l l = l.codes.items ≡ map literal_code (take l.l-index l.lits)
