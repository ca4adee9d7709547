use Rattle.std.proofs.Common.{◌≡◌, ◌+◌, ◌++◌, map}
use Rattle.sr_model.specs.Writing.{clause_lines}
use Rattle.sr_holes.specs.Holes.{not_both}
use Rattle.sr_holes.proofs.Growing.{below}
use Rattle.sr_holes.proofs.formula.put_not_with_later.Given as goal

abbrev pub invariant-loop-other : goal.invariant-loop-other
invariant-loop-other l = l.out ≡ l.fn.out ++ clause_lines (map (not_both l.holes l.hole l.pigeon) (below (l.pigeon + 1) l.other))
