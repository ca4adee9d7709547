use Rattle.sr_trim.specs.Said.{trim_said}
use Rattle.sr_trim.proofs.Wrote.{ready_written}
use Rattle.sr_trim.proofs.Unverified.{not_ready, none_owed, still_wanted}
use Rattle.sr_trim.proofs.passing.pass_back.Goals as goal

pub returns-clause-passes : goal.returns-clause-passes
returns-clause-passes g c =
    ready_written c.args.limits.now (trim_said c.args.words.now) (g.L.Loaded.state c.args.loaded.now) (g.L.Loaded.state c.make_ready.new.loaded) c.in-Ok.ready (g.D.Desk.outside c.args.desk.now)
    (g.D.Desk.outside c.write_files-outcome.new.desk) c.write_files-outcome.result c.write_files-outcome.new.ready.counts c.in-Ok.ensures.prepares c.write_files-outcome.ensures.written c.write_files-outcome.ensures.counts

pub returns-clause-report : goal.returns-clause-report
returns-clause-report g c = λ v.
    still_wanted c.args.wanted c.in-Ok.ready.counts c.write_files-outcome.new.ready.counts c.in-Ok.ready.report c.write_files-outcome.new.ready.report
    c.write_files-outcome.ensures.counts c.write_files-outcome.ensures.report c.in-Ok.ensures.report

pub returns-in-Err-clause-report : goal.returns-in-Err-clause-report
returns-in-Err-clause-report g c =
    none_owed c.args.wanted c.in-Err.outcome c.without_counts.result.outcome c.without_counts.result.counts c.without_counts.result.report c.without_counts.ensures
    (not_ready c.args.limits.now (trim_said c.args.words.now) (g.L.Loaded.state c.make_ready.new.loaded) c.in-Err.outcome c.in-Err.ensures.prepares.prepares)
