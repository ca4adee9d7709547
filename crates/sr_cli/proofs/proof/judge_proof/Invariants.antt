use Rattle.std.proofs.Common.{◌≡◌, ◌-◌, false}
use Rattle.sr_desk.specs.Next.{Reads}
use Rattle.sr_cli.specs.Runs.{Progress}
use Rattle.sr_cli.proofs.proof.judge_proof.Given as goal

-- the items so far are met, and what is left of the proof goes on with them
abbrev pub invariant-items : goal.invariant-items
invariant-items g l = record {
  progress : Progress l.limits l.fn.form l.fn.checker.strict g.f l.fn.reader l.items.reader (g.D.Desk.outside l.desk) l.checker l.tally;
  reads : Reads l.fn.reader l.items.reader (g.D.Desk.outside l.fn.desk) (g.D.Desk.outside l.desk) false;
  form : l.items.form ≡ l.fn.form;
}

abbrev pub decreases-items : goal.decreases-items
decreases-items g l = l.items.reader.limit - l.items.reader.taken
