use Rattle.std.proofs.Common.{◌≡◌, ◌++◌, map}
use Rattle.sr_base.specs.declared.names.Form.TheVariants.{Text}
use Rattle.sr_model.specs.Writing.{written_lines}
use Rattle.sr_holes.specs.Holes.{swap_line}
use Rattle.sr_holes.proofs.Growing.{below}
use Rattle.sr_holes.proofs.proof.put_swap_lines.Given as goal

abbrev pub invariant-loop-pigeon : goal.invariant-loop-pigeon
invariant-loop-pigeon l = l.out ≡ l.fn.out ++ written_lines Text (map (swap_line l.holes l.hole) (below 1 l.pigeon))
