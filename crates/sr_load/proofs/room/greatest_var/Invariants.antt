use Rattle.std.specs.Prelude.{◌≤◌}
use Rattle.sr_base.specs.declared.literal.TheConstants.{MOST_VARS}
use Rattle.sr_load.proofs.room.greatest_var.Given as goal

abbrev pub invariant-loop-i : goal.invariant-loop-i
invariant-loop-i l = l.greatest ≤ MOST_VARS
