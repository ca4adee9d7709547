use Rattle.std.proofs.Common.{◌∙◌, ◌+◌, ℕ, Ok, ap, subst}
use Rattle.sr_base.specs.Contents.{Contents}
use Rattle.sr_model.specs.TextTokens.{spelled}
use Rattle.sr_model.specs.Dimacs.{Formula, formula_at}
use Rattle.sr_desk.specs.Outside.{Agrees}
use Rattle.sr_scan.specs.Left.{Refuses}
use Rattle.sr_cli.specs.Words.{said}
use Rattle.sr_files.specs.Files.{ReadsFront}
use Rattle.sr_cli.specs.declared.check.Checked.{Checked}
use Rattle.sr_cli.proofs.Opening.{formula_unread, formula_read}
use Rattle.sr_cli.proofs.check.check_files.Goals as goal

pub returns-in-Err-clause-finds : goal.returns-in-Err-clause-finds
returns-in-Err-clause-finds g c =
    formula_unread c.args.limits.now (said c.args.words.now) (g.D.Desk.outside c.load_formula.new.desk) c.in-Err.error c.with_counts.result.counts c.with_counts.result.outcome
    (subst (λ (n : ℕ). (d : Contents) → Agrees ((g.D.Desk.outside c.load_formula.new.desk).slot n) d → Refuses (formula_at c.args.limits.now (spelled c.args.limits.now.bytes d)) c.in-Err.error) c.requires c.in-Err.ensures.formula)
    (c.in-Err.ensures.slots.begun ∙ ap (λ n. n + 1) c.requires) (ap (λ (r : Checked). r.outcome) c.with_counts.ensures ∙ c.outcome_of.ensures)

pub returns-in-Ok-clause-finds : goal.returns-in-Ok-clause-finds
returns-in-Ok-clause-finds g c =
    formula_read c.args.limits.now (said c.args.words.now) c.in-Ok.formula c.args.words.now.proof.now c.judge_formula.result (g.D.Desk.outside c.load_formula.new.desk) (g.D.Desk.outside c.judge_formula.new.desk)
    (c.in-Ok.ensures.slots.begun ∙ ap (λ n. n + 1) c.requires)
    (subst (λ (n : ℕ). (d : Contents) → Agrees ((g.D.Desk.outside c.load_formula.new.desk).slot n) d → ReadsFront {A = Formula} (formula_at c.args.limits.now (spelled c.args.limits.now.bytes d)) (Ok c.in-Ok.formula)) c.requires c.in-Ok.ensures.formula)
    c.judge_formula.ensures
