use Rattle.std.proofs.Common.{◌-◌}
use Rattle.sr_desk.specs.Next.{Stands}
use Rattle.sr_copy.proofs.copying.copy_lines.Given as goal

abbrev pub invariant-lines : goal.invariant-lines
invariant-lines g l = Stands l.reader.reader (g.D.Desk.outside l.desk)

abbrev pub decreases-lines : goal.decreases-lines
decreases-lines g l = l.reader.reader.limit - l.reader.reader.taken
