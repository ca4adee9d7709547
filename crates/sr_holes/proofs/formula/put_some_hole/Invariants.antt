use Rattle.std.proofs.Common.{◌≡◌, ◌++◌, map}
use Rattle.sr_base.specs.declared.names.Form.TheVariants.{Text}
use Rattle.sr_scan.specs.Written.{written_literals}
use Rattle.sr_holes.specs.Holes.{in_hole}
use Rattle.sr_holes.proofs.Growing.{below}
use Rattle.sr_holes.proofs.formula.put_some_hole.Given as goal

abbrev pub invariant-loop-hole : goal.invariant-loop-hole
invariant-loop-hole l = l.out ≡ l.fn.out ++ written_literals Text (map (in_hole l.holes l.pigeon) (below 1 l.hole))
