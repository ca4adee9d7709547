use Rattle.std.proofs.Common.{◌≡◌, ◌+◌, ◌++◌}
use Rattle.std.specs.Prelude.{flat_map}
use Rattle.sr_holes.specs.Holes.{exchange}
use Rattle.sr_holes.proofs.Growing.{maps_text}
use Rattle.sr_holes.proofs.Growing.{below}
use Rattle.sr_holes.proofs.proof.put_swap.Given as goal

abbrev pub invariant-loop-below : goal.invariant-loop-below
invariant-loop-below l = l.out ≡ l.fn.out ++ maps_text (flat_map (exchange l.holes l.pigeon (l.hole + 1)) (below 1 l.below))
