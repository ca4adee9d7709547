use Rattle.std.proofs.Common.{◌≡◌, ◌-◌, false}
use Rattle.sr_desk.specs.Next.{Stands, Reads, ForContents}
use Rattle.sr_scan.specs.Machine.{between, texts_in, machine_left}
use Rattle.sr_scan.proofs.text.begin.Given as goal

abbrev pub invariant-gaps : goal.invariant-gaps
invariant-gaps g l = record {
  left : ForContents l.reader (g.D.Desk.outside l.desk) (λ c. machine_left l.fn.reader c ≡ texts_in (between l.gap) l.reader c);
  reads : Reads l.fn.reader l.reader (g.D.Desk.outside l.fn.desk) (g.D.Desk.outside l.desk) false;
  stands : Stands l.reader (g.D.Desk.outside l.desk);
}

abbrev pub decreases-gaps : goal.decreases-gaps
decreases-gaps g l = l.reader.limit - l.reader.taken
