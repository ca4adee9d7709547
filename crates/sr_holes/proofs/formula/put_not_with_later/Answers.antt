use Rattle.std.proofs.Common.{◌+◌, map, arith}
use Rattle.sr_base.specs.Literal.{number}
use Rattle.sr_model.specs.Writing.{number_line}
use Rattle.sr_holes.specs.Holes.{not_both}
use Rattle.sr_holes.proofs.Growing.{map_step}
use Rattle.sr_holes.proofs.formula.put_not_with_later.Goals as goal

pub loop-other-preserved : goal.loop-other-preserved
loop-other-preserved c =
    map_step (λ d. number_line (map number d)) (not_both c.args.holes c.args.hole c.args.pigeon) (c.args.pigeon + 1) c.loop-other.other c.args.out.now c.loop-other.out c.put_not_both.new.out (omega arith) c.loop-other.invariant c.in_ok-put_not_both.ensures
