use Rattle.std.proofs.Common.{◌-◌}
use Rattle.sr_desk.specs.MemoryView.{outside_of}
use Rattle.sr_desk.specs.Next.{Stands}
use Rattle.sr_rows.proofs.lines.write_again.Given as goal

-- the file can still be read
abbrev pub invariant-lines : goal.invariant-lines
invariant-lines l = Stands l.reader.reader (outside_of l.desk)

abbrev pub decreases-lines : goal.decreases-lines
decreases-lines l = l.reader.reader.limit - l.reader.reader.taken
