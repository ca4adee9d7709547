use Rattle.std.proofs.Common.{◌-◌}
use Rattle.sr_desk.specs.Next.{Stands}
use Rattle.sr_copy.proofs.copying.copy_items.Given as goal

abbrev pub invariant-items : goal.invariant-items
invariant-items g l = Stands l.reader.reader (g.D.Desk.outside l.desk)

abbrev pub decreases-items : goal.decreases-items
decreases-items g l = l.reader.reader.limit - l.reader.reader.taken
