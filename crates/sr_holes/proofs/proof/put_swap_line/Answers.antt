use Rattle.sr_holes.proofs.Lines.{swap_line_put}
use Rattle.sr_holes.proofs.proof.put_swap_line.Goals as goal

pub returns : goal.returns
returns c =
    swap_line_put c.put_end.result c.args.holes c.args.hole c.args.pigeon c.args.out.now c.put_taken_over.new.out c.put_taken_over-2.new.out c.put_not_in_hole.new.out c.put_swap.new.out c.put_end.new.out
    c.requires.second c.in_ok-put_taken_over.ensures c.in_ok-put_taken_over-2.ensures c.in_ok-put_not_in_hole.ensures c.in_ok-put_swap.ensures c.put_end.ensures.ok
