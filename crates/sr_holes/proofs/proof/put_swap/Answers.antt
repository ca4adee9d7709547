use Rattle.std.proofs.Common.{◌+◌, arith}
use Rattle.sr_holes.specs.Holes.{exchange}
use Rattle.sr_holes.proofs.Growing.{maps_step}
use Rattle.sr_holes.proofs.proof.put_swap.Goals as goal

pub loop-below-preserved : goal.loop-below-preserved
loop-below-preserved c =
    maps_step (exchange c.args.holes c.args.pigeon (c.args.hole + 1)) 1 c.loop-below.below c.args.out.now c.loop-below.out c.put_exchange.new.out (omega arith) c.loop-below.invariant c.in_ok-put_exchange.ensures
