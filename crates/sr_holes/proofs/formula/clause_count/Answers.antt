use Rattle.std.proofs.Common.{arith}
use Rattle.sr_holes.proofs.Counting.{clauses_count}
use Rattle.sr_holes.proofs.formula.clause_count.Goals as goal

pub returns : goal.returns
returns c = omega (arith, clauses_count c.args.holes)
