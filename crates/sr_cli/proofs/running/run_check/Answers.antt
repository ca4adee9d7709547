use Rattle.std.proofs.Common.{refl, sym, ◌∙◌}
use Rattle.std.specs.Prelude.{option_map}
use Rattle.sr_cli.specs.Words.{said, checks}
use Rattle.sr_cli.proofs.Printing.{runs_check, runs_unchecked, check_named, check_gives, check_only, prints_nothing}
use Rattle.sr_cli.proofs.Refuted.{runs_sound, runs_say_so}
use Rattle.sr_cli.proofs.running.run_check.Goals as goal
use Rattle.sr_cli.proofs.running.run_check.Goals.{then-asked_for, else-asked_for}

pub returns-clause-files : goal.returns-clause-files
returns-clause-files g c =
    check_gives (said c.args.asked_for.now) (g.D.Desk.outside c.args.desk.now) (g.D.Desk.outside c.check_files-checked.new.desk) (g.D.Desk.outside c.report.new.desk) c.report.ensures.only
    c.check_files-checked.ensures.formula c.check_files-checked.ensures.proof

pub returns-clause-only : goal.returns-clause-only
returns-clause-only g c =
    check_only (said c.args.asked_for.now) (g.D.Desk.outside c.args.desk.now) (g.D.Desk.outside c.check_files-checked.new.desk) (g.D.Desk.outside c.report.new.desk) c.check_files-checked.ensures.slots
    c.report.ensures.only (check_named (said c.args.asked_for.now) (g.D.Desk.outside c.args.desk.now) (g.D.Desk.outside c.check_files-checked.new.desk) (g.D.Desk.outside c.report.new.desk) c.report.ensures.only
    c.check_files-checked.ensures.formula c.check_files-checked.ensures.proof)

pub returns-clause-runs : goal.returns-clause-runs
returns-clause-runs g c =
    runs_check c.args.limits.now (said c.args.asked_for.now) (g.D.Desk.outside c.args.desk.now) (g.D.Desk.outside c.check_files-checked.new.desk) (g.D.Desk.outside c.report.new.desk)
    c.check_files-checked.result.outcome c.report.result c.check_files-checked.result.counts (option_map (λ x. x.now) c.if-asked_for.counts)
    c.check_files-checked.ensures.slots (check_named (said c.args.asked_for.now) (g.D.Desk.outside c.args.desk.now) (g.D.Desk.outside c.check_files-checked.new.desk) (g.D.Desk.outside c.report.new.desk) c.report.ensures.only
    c.check_files-checked.ensures.formula c.check_files-checked.ensures.proof) c.check_files-checked.ensures.finds c.check_files-checked.ensures.cause c.report.ensures.only
    (elim c.if-asked_for.branch [
      | then-asked_for w ↦ rw (w.counts-is, w.if-asked_for.true) refl
      | else-asked_for w ↦ rw (w.counts-is, w.if-asked_for.false) refl
    ]) (sym c.is_unreported.ensures ∙ c.if-is_unreported.false) c.report.ensures.reports

pub returns-clause-sound : goal.returns-clause-sound
returns-clause-sound g c = runs_sound c.args.limits.now (checks (said c.args.asked_for.now)) (g.D.Desk.outside c.args.desk.now) (g.D.Desk.outside c.report.new.desk) c.report.result (returns-clause-runs g c)

pub returns-clause-printed : goal.returns-clause-printed
returns-clause-printed g c = runs_say_so c.args.limits.now (checks (said c.args.asked_for.now)) (g.D.Desk.outside c.args.desk.now) (g.D.Desk.outside c.report.new.desk) c.report.result (returns-clause-runs g c)

pub returns-then-is_unreported-clause-files : goal.returns-then-is_unreported-clause-files
returns-then-is_unreported-clause-files g c =
    let mid = g.D.Desk.outside c.check_files-checked.new.desk in
    check_gives (said c.args.asked_for.now) (g.D.Desk.outside c.args.desk.now) mid mid (prints_nothing mid) c.check_files-checked.ensures.formula c.check_files-checked.ensures.proof

pub returns-then-is_unreported-clause-only : goal.returns-then-is_unreported-clause-only
returns-then-is_unreported-clause-only g c =
    let mid = g.D.Desk.outside c.check_files-checked.new.desk in
    check_only (said c.args.asked_for.now) (g.D.Desk.outside c.args.desk.now) mid mid c.check_files-checked.ensures.slots (prints_nothing mid)
    (check_named (said c.args.asked_for.now) (g.D.Desk.outside c.args.desk.now) mid mid (prints_nothing mid) c.check_files-checked.ensures.formula c.check_files-checked.ensures.proof)

pub returns-then-is_unreported-clause-runs : goal.returns-then-is_unreported-clause-runs
returns-then-is_unreported-clause-runs g c =
    let mid = g.D.Desk.outside c.check_files-checked.new.desk in
    runs_unchecked c.args.limits.now (said c.args.asked_for.now) (g.D.Desk.outside c.args.desk.now) mid
    c.check_files-checked.result.outcome c.check_files-checked.result.counts c.check_files-checked.ensures.slots
    (check_named (said c.args.asked_for.now) (g.D.Desk.outside c.args.desk.now) mid mid (prints_nothing mid) c.check_files-checked.ensures.formula c.check_files-checked.ensures.proof)
    c.check_files-checked.ensures.finds c.check_files-checked.ensures.cause (sym c.is_unreported.ensures ∙ c.if-is_unreported.true)

pub returns-then-is_unreported-clause-sound : goal.returns-then-is_unreported-clause-sound
returns-then-is_unreported-clause-sound g c = runs_sound c.args.limits.now (checks (said c.args.asked_for.now)) (g.D.Desk.outside c.args.desk.now) (g.D.Desk.outside c.check_files-checked.new.desk) c.check_files-checked.result.outcome (returns-then-is_unreported-clause-runs g c)

pub returns-then-is_unreported-clause-printed : goal.returns-then-is_unreported-clause-printed
returns-then-is_unreported-clause-printed g c = runs_say_so c.args.limits.now (checks (said c.args.asked_for.now)) (g.D.Desk.outside c.args.desk.now) (g.D.Desk.outside c.check_files-checked.new.desk) c.check_files-checked.result.outcome (returns-then-is_unreported-clause-runs g c)
