use Rattle.std.proofs.Common.{◌≡◌, ◌+◌}
use Rattle.sr_solve.proofs.heap.Heap.new.Given as goal

abbrev pub invariant-loop-i : goal.invariant-loop-i
invariant-loop-i l = l.heap ≡ l.vars + 1
