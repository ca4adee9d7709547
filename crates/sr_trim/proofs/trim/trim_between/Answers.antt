use Rattle.std.proofs.Common.{sym, subst}
use Rattle.sr_emit.specs.declared.outcome.Outcome.{Outcome}
use Rattle.sr_trim.specs.Said.{trim_said}
use Rattle.sr_trim.specs.Finding.{FindsBetween}
use Rattle.sr_trim.proofs.Found.{between_stop, between_pass}
use Rattle.sr_trim.proofs.Unverified.{none_owed}
use Rattle.sr_trim.proofs.trim.trim_between.Goals as goal

pub returns-in-Ok-clause-finds : goal.returns-in-Ok-clause-finds
returns-in-Ok-clause-finds g c =
    between_pass c.args.limits.now (trim_said c.args.words.now) (g.S.Desk.outside c.args.from.now) (g.S.Desk.outside c.load_files.new.desk) c.in-Ok.loader (g.D.Desk.outside c.args.desk.now)
    (g.D.Desk.outside c.pass.new.desk) c.pass.result.outcome c.pass.result.counts (record { reads = c.in-Ok.ensures.slots; formula = c.in-Ok.ensures.formula; proof = c.in-Ok.ensures.file })
    c.in-Ok.ensures.loads c.pass.ensures.passes

pub returns-in-Err-clause-finds : goal.returns-in-Err-clause-finds
returns-in-Err-clause-finds g c =
    subst (λ (o : Outcome). FindsBetween c.args.limits.now (trim_said c.args.words.now) (g.S.Desk.outside c.args.from.now) (g.S.Desk.outside c.load_files.new.desk) (g.D.Desk.outside c.args.desk.now)
    (g.D.Desk.outside c.args.desk.now) o c.without_counts.result.counts) (sym c.without_counts.ensures)
    (between_stop c.args.limits.now (trim_said c.args.words.now) (g.S.Desk.outside c.args.from.now) (g.S.Desk.outside c.load_files.new.desk) (g.D.Desk.outside c.args.desk.now) c.in-Err.outcome
    c.without_counts.result.counts (record { reads = c.in-Err.ensures.slots; formula = c.in-Err.ensures.formula; proof = c.in-Err.ensures.file }) c.in-Err.ensures.cause c.in-Err.ensures.loads)

pub returns-in-Err-clause-report : goal.returns-in-Err-clause-report
returns-in-Err-clause-report g c =
    none_owed c.args.wanted c.in-Err.outcome c.without_counts.result.outcome c.without_counts.result.counts c.without_counts.result.report c.without_counts.ensures c.in-Err.ensures.unverified
