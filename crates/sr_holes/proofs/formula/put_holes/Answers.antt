use Rattle.std.proofs.Common.{map, arith}
use Rattle.sr_base.specs.Literal.{number}
use Rattle.sr_model.specs.Writing.{number_line}
use Rattle.sr_holes.specs.Holes.{at_most_one}
use Rattle.sr_holes.proofs.Growing.{flat_map_step}
use Rattle.sr_holes.proofs.formula.put_holes.Goals as goal

pub loop-hole-preserved : goal.loop-hole-preserved
loop-hole-preserved c =
    flat_map_step (λ d. number_line (map number d)) (at_most_one c.args.holes) 1 c.loop-hole.hole c.args.out.now c.loop-hole.out c.put_at_most_one.new.out (omega arith) c.loop-hole.invariant c.in_ok-put_at_most_one.ensures
