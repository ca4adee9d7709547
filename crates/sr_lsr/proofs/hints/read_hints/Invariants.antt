use Rattle.std.proofs.Common.{◌-◌, false}
use Rattle.sr_desk.specs.Next.{Stands, Reads, ForContents}
use Rattle.sr_scan.specs.Left.{tokens_left}
use Rattle.sr_lsr.specs.Told.{AreSmall}
use Rattle.sr_lsr.proofs.HintLemmas.{Reading}
use Rattle.sr_lsr.proofs.hints.read_hints.Given as goal

abbrev pub invariant-tokens : goal.invariant-tokens
invariant-tokens g l = record {
  hints : ForContents l.reader (g.D.Desk.outside l.desk) (λ c. Reading l.bound (tokens_left l.form 2 1 l.fn.reader c) (tokens_left l.form 2 1 l.reader c) l.hints);
  small : AreSmall l.hints;
  reads : Reads l.fn.reader l.reader (g.D.Desk.outside l.fn.desk) (g.D.Desk.outside l.desk) false;
  stands : Stands l.reader (g.D.Desk.outside l.desk);
}

abbrev pub decreases-tokens : goal.decreases-tokens
decreases-tokens g l = l.reader.limit - l.reader.taken
