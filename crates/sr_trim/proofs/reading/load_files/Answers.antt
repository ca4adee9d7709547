use Rattle.std.proofs.Common.{◌∙◌, ◌+◌, ℕ, Ok, Err, refl, ap, sym, subst, arith}
use Rattle.sr_base.specs.Contents.{Contents}
use Rattle.sr_model.specs.TextTokens.{spelled}
use Rattle.sr_model.specs.Dimacs.{Formula, formula_at}
use Rattle.sr_desk.specs.Outside.{Agrees}
use Rattle.sr_scan.specs.Left.{Refuses}
use Rattle.sr_emit.specs.declared.outcome.Outcome.{Outcome}
use Rattle.sr_files.specs.Files.{ReadsFront, GivesFile}
use Rattle.sr_trim.specs.Said.{trim_said}
use Rattle.sr_trim.specs.Lines.{LoadsFiles}
use Rattle.sr_trim.proofs.Opened.{formula_unread, formula_read, gives_still, first_still}
use Rattle.sr_trim.proofs.reading.load_files.Goals as goal

pub returns-in-Err-clause-loads : goal.returns-in-Err-clause-loads
returns-in-Err-clause-loads g c =
    subst (λ (o : Outcome). LoadsFiles c.args.limits.now (trim_said c.args.words.now) (g.D.Desk.outside c.load_formula.new.desk) (Err o)) (sym c.outcome_of.ensures)
    (formula_unread c.args.limits.now (trim_said c.args.words.now) (g.D.Desk.outside c.load_formula.new.desk) c.in-Err.error
    (subst (λ (n : ℕ). (d : Contents) → Agrees ((g.D.Desk.outside c.load_formula.new.desk).slot n) d → Refuses (formula_at c.args.limits.now (spelled c.args.limits.now.bytes d)) c.in-Err.error) c.requires c.in-Err.ensures.formula)
    (c.in-Err.ensures.slots.begun ∙ ap (λ n. n + 1) c.requires))

pub returns-in-Ok-clause-loads : goal.returns-in-Ok-clause-loads
returns-in-Ok-clause-loads g c =
    formula_read c.args.limits.now (trim_said c.args.words.now) c.in-Ok.formula c.load_clauses.result (g.D.Desk.outside c.load_formula.new.desk) (g.D.Desk.outside c.load_clauses.new.desk)
    (c.in-Ok.ensures.slots.begun ∙ ap (λ n. n + 1) c.requires)
    (subst (λ (n : ℕ). (d : Contents) → Agrees ((g.D.Desk.outside c.load_formula.new.desk).slot n) d → ReadsFront {A = Formula} (formula_at c.args.limits.now (spelled c.args.limits.now.bytes d)) (Ok c.in-Ok.formula)) c.requires c.in-Ok.ensures.formula)
    c.load_clauses.ensures.slots c.load_clauses.ensures.loads

pub returns-in-Ok-clause-formula : goal.returns-in-Ok-clause-formula
returns-in-Ok-clause-formula g c =
    gives_still 0 c.args.words.now.formula.now (g.D.Desk.outside c.args.desk.now) (g.D.Desk.outside c.args.desk.now) (g.D.Desk.outside c.load_formula.new.desk) (g.D.Desk.outside c.load_clauses.new.desk) refl
    (first_still (g.D.Desk.outside c.load_formula.new.desk) (g.D.Desk.outside c.load_clauses.new.desk) (omega (arith, c.in-Ok.ensures.slots.begun)) c.load_clauses.ensures.slots)
    (subst (λ (n : ℕ). GivesFile n c.args.words.now.formula.now (g.D.Desk.outside c.args.desk.now) (g.D.Desk.outside c.load_formula.new.desk)) c.requires c.in-Ok.ensures.file)

pub returns-in-Ok-clause-file : goal.returns-in-Ok-clause-file
returns-in-Ok-clause-file g c = λ two.
    gives_still 1 c.args.words.now.proof.now (g.D.Desk.outside c.args.desk.now) (g.D.Desk.outside c.load_formula.new.desk) (g.D.Desk.outside c.load_clauses.new.desk) (g.D.Desk.outside c.load_clauses.new.desk) c.in-Ok.ensures.slots.file
    refl (c.load_clauses.ensures.file two)
