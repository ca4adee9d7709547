use Rattle.std.proofs.Common.{refl, ◌+◌, ◌*◌}
use Rattle.sr_holes.proofs.Counting.{formula_text}
use Rattle.sr_holes.proofs.formula.holes_formula.Goals as goal

pub returns : goal.returns
returns c =
    formula_text c.args.holes (c.args.holes * (c.args.holes + 1)) c.clause_count.result c.new-out.result c.put_header.new.out c.put_pigeons.new.out c.put_holes.new.out
    refl c.clause_count.ensures c.new-out.ensures c.in_ok-put_header.ensures c.in_ok-put_pigeons.ensures c.in_ok-put_holes.ensures
