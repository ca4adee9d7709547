use Rattle.std.proofs.Common.{◌==◌, ◌-◌, cond, length}
use Rattle.sr_placing.proofs.Chaining.{IsWalking}
use Rattle.sr_placing.proofs.chains.push_chain.Given as goal

abbrev pub invariant-loop-n : goal.invariant-loop-n
invariant-loop-n l = IsWalking l.links l.head l.n l.fn.numbers.items l.numbers.items

-- a chain rises, and 0 ends it
abbrev pub decreases-loop-n : goal.decreases-loop-n
decreases-loop-n l = cond (l.n == 0) 0 (length l.links - l.n)
