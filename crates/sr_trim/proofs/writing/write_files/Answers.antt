use Rattle.std.proofs.Common.{◌∙◌, sym}
use Rattle.sr_trim.specs.Said.{trim_said}
use Rattle.sr_trim.proofs.Wrote.{both_written}
use Rattle.sr_trim.proofs.writing.write_files.Goals as goal

pub returns-clause-written : goal.returns-clause-written
returns-clause-written g c =
    both_written (trim_said c.args.words.now) (g.L.Loaded.state c.args.loaded.now) c.args.ready.now.steps c.args.ready.now.placing c.formula.result.now (g.D.Desk.outside c.args.desk.now)
    (g.D.Desk.outside c.write_lsr_asked-outcome.new.desk) (g.D.Desk.outside c.write_core_asked.new.desk) c.write_lsr_asked-outcome.result c.write_core_asked.result
    c.write_lsr_asked-outcome.ensures (sym c.is_verified.ensures ∙ c.if-not-is_verified.false) c.requires.placed c.formula.ensures c.write_core_asked.ensures
