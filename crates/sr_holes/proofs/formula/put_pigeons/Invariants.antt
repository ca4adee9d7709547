use Rattle.std.proofs.Common.{◌≡◌, ◌++◌, map}
use Rattle.sr_model.specs.Writing.{clause_lines}
use Rattle.sr_holes.specs.Holes.{in_some_hole}
use Rattle.sr_holes.proofs.Growing.{below}
use Rattle.sr_holes.proofs.formula.put_pigeons.Given as goal

abbrev pub invariant-loop-pigeon : goal.invariant-loop-pigeon
invariant-loop-pigeon l = l.out ≡ l.fn.out ++ clause_lines (map (in_some_hole l.holes) (below 1 l.pigeon))
