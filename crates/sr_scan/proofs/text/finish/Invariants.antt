use Rattle.std.proofs.Common.{ℕ, ◌≡◌, ◌-◌, false}
use Rattle.sr_desk.specs.Next.{Stands, Reads, ForContents}
use Rattle.sr_scan.specs.Machine.{within, texts_in}
use Rattle.sr_scan.proofs.text.finish.Given as goal

abbrev pub invariant-bytes : goal.invariant-bytes
invariant-bytes g l = record {
  left : ForContents l.reader (g.D.Desk.outside l.desk) (λ c. (place : ℕ) → texts_in (within place l.fn.first) l.fn.reader c ≡ texts_in (within place l.lexeme) l.reader c);
  reads : Reads l.fn.reader l.reader (g.D.Desk.outside l.fn.desk) (g.D.Desk.outside l.desk) false;
  stands : Stands l.reader (g.D.Desk.outside l.desk);
}

abbrev pub decreases-bytes : goal.decreases-bytes
decreases-bytes g l = l.reader.limit - l.reader.taken
