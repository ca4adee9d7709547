use Rattle.std.proofs.Common.{◌≡◌, ◌≤◌}
use Rattle.std.specs.Prelude.{flat_map, reverse}
use Rattle.sr_base.specs.declared.names.Form.TheVariants.{Text}
use Rattle.sr_model.specs.Writing.{written_lines}
use Rattle.sr_holes.specs.Holes.{from_to, lines_at}
use Rattle.sr_holes.proofs.proof.holes_proof.Given as goal

-- the lines at the holes from this one to the last
abbrev pub invariant-loop-hole : goal.invariant-loop-hole
invariant-loop-hole l = record {
  low : 2 ≤ l.hole;
  written : l.out ≡ written_lines Text (flat_map (lines_at l.holes) (reverse (from_to l.hole l.holes)));
}
