use Rattle.std.specs.Prelude.{◌≤◌}
use Rattle.sr_base.specs.declared.literal.TheConstants.{MOST_VARS}
use Rattle.sr_load.proofs.room.greatest_of.Given as goal

abbrev pub invariant-loop-l : goal.invariant-loop-l
invariant-loop-l l = l.greatest ≤ MOST_VARS
