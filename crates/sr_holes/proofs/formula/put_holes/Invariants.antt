use Rattle.std.proofs.Common.{◌≡◌, ◌++◌}
use Rattle.std.specs.Prelude.{flat_map}
use Rattle.sr_model.specs.Writing.{clause_lines}
use Rattle.sr_holes.specs.Holes.{at_most_one}
use Rattle.sr_holes.proofs.Growing.{below}
use Rattle.sr_holes.proofs.formula.put_holes.Given as goal

abbrev pub invariant-loop-hole : goal.invariant-loop-hole
invariant-loop-hole l = l.out ≡ l.fn.out ++ clause_lines (flat_map (at_most_one l.holes) (below 1 l.hole))
