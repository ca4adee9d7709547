use Rattle.std.proofs.Common.{map, arith}
use Rattle.sr_base.specs.Literal.{number}
use Rattle.sr_model.specs.Writing.{number_line}
use Rattle.sr_holes.specs.Holes.{not_with_later}
use Rattle.sr_holes.proofs.Growing.{flat_map_step}
use Rattle.sr_holes.proofs.formula.put_at_most_one.Goals as goal

pub loop-pigeon-preserved : goal.loop-pigeon-preserved
loop-pigeon-preserved c =
    flat_map_step (λ d. number_line (map number d)) (not_with_later c.args.holes c.args.hole) 1 c.loop-pigeon.pigeon c.args.out.now c.loop-pigeon.out c.put_not_with_later.new.out (omega arith) c.loop-pigeon.invariant c.in_ok-put_not_with_later.ensures
