use Rattle.std.proofs.Common.{sym, subst}
use Rattle.sr_emit.specs.declared.outcome.Outcome.{Outcome}
use Rattle.sr_emit.specs.declared.report.Command.TheVariants as command
use Rattle.sr_trim.specs.Said.{trim_said}
use Rattle.sr_trim.specs.Finding.{Finds}
use Rattle.sr_trim.proofs.Found.{found_stop, found_pass}
use Rattle.sr_trim.proofs.Unverified.{none_owed}
use Rattle.sr_trim.proofs.trim.trim_files.Goals as goal

pub returns-in-Err-clause-finds : goal.returns-in-Err-clause-finds
returns-in-Err-clause-finds g c =
    subst (λ (o : Outcome). Finds c.args.limits.now (trim_said c.args.words.now) (g.D.Desk.outside c.args.desk.now) (g.D.Desk.outside c.load_files.new.desk) o c.without_counts.result.counts) (sym c.without_counts.ensures)
    (found_stop c.args.limits.now (trim_said c.args.words.now) (g.D.Desk.outside c.args.desk.now) (g.D.Desk.outside c.load_files.new.desk) c.in-Err.outcome c.without_counts.result.counts
    c.in-Err.ensures.slots c.in-Err.ensures.formula c.in-Err.ensures.file c.in-Err.ensures.cause c.in-Err.ensures.loads)

pub returns-clause-finds : goal.returns-clause-finds
returns-clause-finds g c =
    found_pass c.args.limits.now (trim_said c.args.words.now) (g.D.Desk.outside c.args.desk.now) (g.D.Desk.outside c.load_files.new.desk) c.in-Ok.loader (g.D.Desk.outside c.pass.new.desk)
    c.pass.result.outcome c.pass.result.counts c.in-Ok.ensures.slots c.in-Ok.ensures.formula c.in-Ok.ensures.file c.in-Ok.ensures.loads c.pass.ensures.passes

pub returns-in-Err-clause-report : goal.returns-in-Err-clause-report
returns-in-Err-clause-report g c =
    none_owed (record { command = command.Trim; with_counts = c.args.words.now.stats }) c.in-Err.outcome c.without_counts.result.outcome c.without_counts.result.counts c.without_counts.result.report
    c.without_counts.ensures c.in-Err.ensures.unverified
