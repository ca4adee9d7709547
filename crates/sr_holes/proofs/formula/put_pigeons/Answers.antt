use Rattle.std.proofs.Common.{map, arith}
use Rattle.sr_base.specs.Literal.{number}
use Rattle.sr_model.specs.Writing.{number_line}
use Rattle.sr_holes.specs.Holes.{in_some_hole}
use Rattle.sr_holes.proofs.Growing.{map_step}
use Rattle.sr_holes.proofs.formula.put_pigeons.Goals as goal

pub loop-pigeon-preserved : goal.loop-pigeon-preserved
loop-pigeon-preserved c =
    map_step (λ d. number_line (map number d)) (in_some_hole c.args.holes) 1 c.loop-pigeon.pigeon c.args.out.now c.loop-pigeon.out c.put_some_hole.new.out (omega arith) c.loop-pigeon.invariant c.in_ok-put_some_hole.ensures
