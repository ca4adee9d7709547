use Rattle.std.proofs.Common.{◌≡◌, ◌-◌, false}
use Rattle.sr_desk.specs.Next.{Stands, Reads, ForContents}
use Rattle.sr_model.specs.Dimacs.{formula_at}
use Rattle.sr_scan.specs.Left.{text_left}
use Rattle.sr_cnf.specs.Reading.{IsReading, left_of}
use Rattle.sr_cnf.proofs.read.read_formula.Given as goal

-- what is left of the text goes on with the formula that is read
abbrev pub invariant-tokens : goal.invariant-tokens
invariant-tokens g l = record {
  spells : ForContents l.reader (g.D.Desk.outside l.desk) (λ c. formula_at l.limits (text_left l.fn.reader c) ≡ left_of l.reading (text_left l.reader c));
  keeps : IsReading l.reading;
  reads : Reads l.fn.reader l.reader (g.D.Desk.outside l.fn.desk) (g.D.Desk.outside l.desk) false;
  stands : Stands l.reader (g.D.Desk.outside l.desk);
}

abbrev pub decreases-tokens : goal.decreases-tokens
decreases-tokens g l = l.reader.limit - l.reader.taken
