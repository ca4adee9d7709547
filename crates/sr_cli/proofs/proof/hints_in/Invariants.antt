use Rattle.std.proofs.Common.{◌≡◌, take}
use Rattle.std.specs.Prelude.{sum_by}
use Rattle.sr_cli.specs.Check.{counted, group_hints}
use Rattle.sr_cli.proofs.proof.hints_in.Given as goal

abbrev pub invariant-loop-i : goal.invariant-loop-i
invariant-loop-i l = l.hints ≡ counted (sum_by group_hints (take l.i l.groups))
