use Rattle.std.proofs.Common.{◌≡◌, ◌++◌}
use Rattle.std.specs.Prelude.{flat_map}
use Rattle.sr_model.specs.Writing.{clause_lines}
use Rattle.sr_holes.specs.Holes.{not_with_later}
use Rattle.sr_holes.proofs.Growing.{below}
use Rattle.sr_holes.proofs.formula.put_at_most_one.Given as goal

abbrev pub invariant-loop-pigeon : goal.invariant-loop-pigeon
invariant-loop-pigeon l = l.out ≡ l.fn.out ++ clause_lines (flat_map (not_with_later l.holes l.hole) (below 1 l.pigeon))
