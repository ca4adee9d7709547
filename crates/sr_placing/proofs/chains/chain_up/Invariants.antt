use Rattle.sr_placing.proofs.Chaining.{AreChainedFrom}
use Rattle.sr_placing.proofs.chains.chain_up.Given as goal

abbrev pub invariant-loop-n : goal.invariant-loop-n
invariant-loop-n l = AreChainedFrom l.fn.marks l.marks l.heads l.n

abbrev pub decreases-loop-n : goal.decreases-loop-n
decreases-loop-n l = l.n
