use Rattle.std.proofs.Common.{◌≡◌, ◌++◌, take}
use Rattle.sr_model.specs.Writing.{groups_written}
use Rattle.sr_scan.specs.Written.{written_numbers}
use Rattle.sr_lsr.proofs.write.put_groups.Given as goal

abbrev pub invariant-loop-i : goal.invariant-loop-i
invariant-loop-i l = l.out ≡ l.fn.out ++ written_numbers l.form (groups_written (take l.i l.groups))
