use Rattle.std.proofs.Common.{◌≡◌, ◌∙◌, ℕ, ap, sym, subst}
use Rattle.sr_desk.specs.Outside.{Agrees}
use Rattle.sr_desk.specs.Reader.{Reader}
use Rattle.sr_model.specs.Dimacs.{formula_at}
use Rattle.sr_files.specs.Files.{GivesFile}
use Rattle.sr_files.proofs.Reading.{opened_on, opened_gives, reads_front, unread_formula}
use Rattle.sr_files.proofs.files.load_formula.Goals as goal

pub returns-in-Ok-clause-formula : goal.returns-in-Ok-clause-formula
returns-in-Ok-clause-formula g c = λ d a.
    let slot : c.read_formula.new.reader.slot ≡ (g.D.Desk.outside c.args.desk.now).begun = c.read_formula.ensures.reads.same.slot ∙ ap (λ (r : Reader). r.slot) c.in-Ok.ensures.reader in
    reads_front (formula_at c.args.limits.now) c.in-Ok.reader (g.D.Desk.outside c.args.desk.now).begun c.args.limits.now.bytes d _ c.read_formula.result c.in-Ok.ensures.reader
    (c.read_formula.ensures.formula d (subst (λ (n : ℕ). Agrees ((g.D.Desk.outside c.read_formula.new.desk).slot n) d) (sym slot) a))

pub returns-in-Ok-clause-file : goal.returns-in-Ok-clause-file
returns-in-Ok-clause-file g c =
    let old = g.D.Desk.outside c.args.desk.now in
    let new = g.D.Desk.outside c.read_formula.new.desk in
    let slot : c.in-Ok.reader.slot ≡ (g.D.Desk.outside c.args.desk.now).begun = ap (λ (r : Reader). r.slot) c.in-Ok.ensures.reader in
    subst (λ (n : ℕ). GivesFile n c.args.name.now (g.D.Desk.outside c.args.desk.now) (g.D.Desk.outside c.read_formula.new.desk)) slot
    (opened_gives c.in-Ok.reader.slot c.args.name.now old new (opened_on c.in-Ok.reader.slot c.args.name.now old (g.D.Desk.outside c.open_file.new.desk) new c.in-Ok.ensures.opened c.read_formula.ensures.reads.only))

pub returns-in-Err-clause-formula : goal.returns-in-Err-clause-formula
returns-in-Err-clause-formula g c = λ d a. unread_formula c.args.limits.now _ d c.in-Err.error c.in-Err.ensures.kinds c.in-Err.ensures.unread a
