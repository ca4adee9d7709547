use Rattle.std.proofs.Common.{◌≡◌, ◌-◌, false}
use Rattle.sr_desk.specs.Next.{Reads}
use Rattle.sr_trim.specs.Said.{trim_said}
use Rattle.sr_trim.specs.Lines.{Standing}
use Rattle.sr_trim.proofs.loading.load_lines.Given as goal

-- loading goes on at all lines so far, and what is left of the proof goes on with them
abbrev pub invariant-lines : goal.invariant-lines
invariant-lines g l = record {
  standing : Standing l.limits (trim_said l.words) l.fn.loader.formula l.fn.reader l.lines.reader (g.D.Desk.outside l.desk) l.loader;
  reads : Reads l.fn.reader l.lines.reader (g.D.Desk.outside l.fn.desk) (g.D.Desk.outside l.desk) false;
  form : l.lines.form ≡ l.words.proof_form;
}

abbrev pub decreases-lines : goal.decreases-lines
decreases-lines g l = l.lines.reader.limit - l.lines.reader.taken
