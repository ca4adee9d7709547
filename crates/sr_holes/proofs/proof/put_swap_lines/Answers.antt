use Rattle.std.proofs.Common.{arith}
use Rattle.sr_base.specs.declared.names.Form.TheVariants.{Text}
use Rattle.sr_model.specs.Writing.{written_line}
use Rattle.sr_holes.specs.Holes.{swap_line}
use Rattle.sr_holes.proofs.Growing.{map_step}
use Rattle.sr_holes.proofs.proof.put_swap_lines.Goals as goal

pub loop-pigeon-preserved : goal.loop-pigeon-preserved
loop-pigeon-preserved c =
    map_step (written_line Text) (swap_line c.args.holes c.args.hole) 1 c.loop-pigeon.pigeon c.args.out.now c.loop-pigeon.out c.put_swap_line.new.out (omega arith) c.loop-pigeon.invariant c.in_ok-put_swap_line.ensures
