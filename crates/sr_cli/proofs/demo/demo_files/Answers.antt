use Rattle.std.proofs.Common.{◌∙◌, sym}
use Rattle.sr_cli.specs.Words.{demo_said}
use Rattle.sr_cli.proofs.Demos.{demo_stopped, demo_written}
use Rattle.sr_cli.proofs.Refuted.{verified_is}
use Rattle.sr_cli.proofs.demo.demo_files.Goals as goal

pub returns-then-not-is_verified-clause-finds : goal.returns-then-not-is_verified-clause-finds
returns-then-not-is_verified-clause-finds g c =
    demo_stopped (demo_said c.args.words.now) (g.D.Desk.outside c.args.desk.now) (g.D.Desk.outside c.trim_sure-trimmed.new.desk) c.trim_sure-trimmed.result.outcome
    (sym c.is_verified.ensures ∙ c.if-not-is_verified.true) c.args.limits.now c.trim_sure-trimmed.result.counts c.trim_sure-trimmed.ensures.finds

pub returns-clause-finds : goal.returns-clause-finds
returns-clause-finds g c =
    demo_written c.args.limits.now (demo_said c.args.words.now) (g.D.Desk.outside c.args.desk.now) (g.D.Desk.outside c.trim_sure-trimmed.new.desk) (g.D.Desk.outside c.write_made-outcome.new.desk)
    c.trim_sure-trimmed.result.outcome c.write_made-outcome.result (sym c.is_verified.ensures ∙ c.if-not-is_verified.false) c.write_made-outcome.ensures c.trim_sure-trimmed.result.counts
    c.trim_sure-trimmed.ensures.finds

pub returns-clause-report : goal.returns-clause-report
returns-clause-report g c = λ v. c.trim_sure-trimmed.ensures.report (verified_is c.trim_sure-trimmed.result.outcome (sym c.is_verified.ensures ∙ c.if-not-is_verified.false))
