use Rattle.std.proofs.Common.{arith}
use Rattle.sr_lists.proofs.Walking.{open_some, filled_by}
use Rattle.sr_lists.proofs.lists.fill.Goals as goal

pub overflow_sub-held : goal.overflow_sub-held
overflow_sub-held c = omega (arith, c.requires.some (omega arith))

pub returns-in-Some-clause-filled : goal.returns-in-Some-clause-filled
returns-in-Some-clause-filled c = λ next along. filled_by c.args.stacks.now c.close.new.stacks c.args.walked c.in-Some.key next c.args.hole c.in-Some.is c.apart.ensures along (omega arith) c.close.ensures

pub returns-in-Some-clause-held : goal.returns-in-Some-clause-held
returns-in-Some-clause-held c = omega (arith, c.requires.some (omega arith), open_some c.args.hole (omega arith))
