use Rattle.std.proofs.Common.{◌≤◌}
use Rattle.sr_wit.proofs.part_table.shift_for.Given as goal

abbrev pub invariant-loop-size : goal.invariant-loop-size
invariant-loop-size l = (7 ≤ l.shift) × (l.shift ≤ 31)

abbrev pub decreases-loop-size : goal.decreases-loop-size
decreases-loop-size l = l.shift
