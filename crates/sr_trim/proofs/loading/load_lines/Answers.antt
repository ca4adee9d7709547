use Rattle.std.proofs.Common.{◌≡◌, ◌∙◌, Option, Some, None, Ok, Err, subst, sym, ap, false}
use Rattle.sr_base.specs.declared.names.Form.{Form}
use Rattle.sr_base.specs.declared.names.InputError.{InputError}
use Rattle.sr_base.specs.Limits.{LimitValues}
use Rattle.sr_model.specs.Dsr.{line_in}
use Rattle.sr_desk.specs.Outside.{Outside}
use Rattle.sr_desk.specs.Reader.{Reader}
use Rattle.sr_desk.specs.Next.{Reads, ForContents}
use Rattle.sr_desk.proofs.ReaderLemmas.{Reads-refl, Reads-trans}
use Rattle.sr_scan.specs.Left.{tokens_left, Gives}
use Rattle.sr_lemma.specs.declared.lemma.DsrLine.{DsrLine}
use Rattle.sr_dsr.specs.Lines.{FileReader}
use Rattle.sr_dsr.specs.Gives.{line_told}
use Rattle.sr_emit.specs.declared.outcome.Outcome.{Outcome}
use Rattle.sr_trim.specs.Said.{trim_said}
use Rattle.sr_trim.specs.Lines.{Standing, LoadsTo}
use Rattle.sr_trim.proofs.Standings.{standing_first, standing_more, standing_conflicts, standing_ends, standing_fault, standing_none}
use Rattle.sr_base.specs.declared.names.Which.TheVariants as which
use Rattle.sr_trim.proofs.Unverified.{unread, unread_cause}
use Rattle.sr_trim.proofs.loading.load_lines.Goals as goal

-- what a reader of this form gave
of_ok : (lim : LimitValues) (now new : Reader) (p : Outside) (f g : Form) (a b : Option DsrLine) → f ≡ g → a ≡ b
    → ForContents new p (λ d. Gives (line_in f lim (tokens_left f 1 0 now d)) (tokens_left f 1 0 new d) (line_told (Ok a)))
    → ForContents new p (λ d. Gives (line_in g lim (tokens_left g 1 0 now d)) (tokens_left g 1 0 new d) (line_told (Ok b)))
of_ok lim now new p f g a b e s h =
    subst (λ (x : Form). ForContents new p (λ d. Gives (line_in x lim (tokens_left x 1 0 now d)) (tokens_left x 1 0 new d) (line_told (Ok b)))) e
    (subst (λ (y : Option DsrLine). ForContents new p (λ d. Gives (line_in f lim (tokens_left f 1 0 now d)) (tokens_left f 1 0 new d) (line_told (Ok y)))) s h)

of_err : (lim : LimitValues) (now new : Reader) (p : Outside) (f g : Form) (e : InputError) → f ≡ g
    → ForContents new p (λ d. Gives (line_in f lim (tokens_left f 1 0 now d)) (tokens_left f 1 0 new d) (line_told (Err e)))
    → ForContents new p (λ d. Gives (line_in g lim (tokens_left g 1 0 now d)) (tokens_left g 1 0 new d) (line_told (Err e)))
of_err lim now new p f g e same h = subst (λ (x : Form). ForContents new p (λ d. Gives (line_in x lim (tokens_left x 1 0 now d)) (tokens_left x 1 0 new d) (line_told (Err e)))) same h

pub lines-init : goal.lines-init
lines-init g c =
    let reader : c.in-Ok.lines.reader ≡ c.args.reader = ap (λ (r : FileReader). r.reader) c.in-Ok.ensures in
    record {
      standing = subst (λ (r : Reader). Standing c.args.limits.now (trim_said c.args.words.now) c.args.loader.formula c.args.reader r (g.D.Desk.outside c.args.desk.now) c.args.loader) (sym reader)
          (standing_first c.args.limits.now (trim_said c.args.words.now) c.args.loader.formula c.args.reader (g.D.Desk.outside c.args.desk.now) c.args.loader c.requires.fresh c.requires.going);
      reads = subst (λ (r : Reader). Reads c.args.reader r (g.D.Desk.outside c.args.desk.now) (g.D.Desk.outside c.args.desk.now) false) (sym reader) (Reads-refl c.requires.stands);
      form = ap (λ (r : FileReader). r.form) c.in-Ok.ensures;
    }

pub lines-preserved : goal.lines-preserved
lines-preserved g c =
    record {
      standing = subst (λ (r : FileReader). Standing c.args.limits.now (trim_said c.args.words.now) c.args.loader.formula c.args.reader r.reader (g.D.Desk.outside c.next.new.desk) c.take_line.new.loader) (sym c.reuse.ensures)
          (standing_more c.args.limits.now (trim_said c.args.words.now) c.args.loader.formula c.args.reader c.lines.lines.reader c.next.new.self.reader (g.D.Desk.outside c.lines.desk) (g.D.Desk.outside c.next.new.desk) c.lines.loader
          c.take_line.new.loader c.in-Ok-Some.line c.lines.invariant.standing c.in-Ok-Some.ensures.reads
          (of_ok c.args.limits.now c.lines.lines.reader c.next.new.self.reader (g.D.Desk.outside c.next.new.desk) c.lines.lines.form c.args.words.now.proof_form c.in-Ok-Some.field-0 (Some c.in-Ok-Some.line) c.lines.invariant.form c.in-Ok-Some.field-0-is c.in-Ok-Some.ensures.line) c.in-Going.ensures.takes);
      reads = subst (λ (r : FileReader). Reads c.args.reader r.reader (g.D.Desk.outside c.args.desk.now) (g.D.Desk.outside c.next.new.desk) false) (sym c.reuse.ensures)
          (Reads-trans c.lines.invariant.reads c.in-Ok-Some.ensures.reads);
      form = ap (λ (r : FileReader). r.form) c.reuse.ensures ∙ c.next.ensures.form ∙ c.lines.invariant.form;
    }

pub returns-in-Ended-clause-loads : goal.returns-in-Ended-clause-loads
returns-in-Ended-clause-loads g c =
    standing_ends c.args.limits.now (trim_said c.args.words.now) c.args.loader.formula c.args.reader c.lines.lines.reader c.next.new.self.reader (g.D.Desk.outside c.lines.desk) (g.D.Desk.outside c.next.new.desk) c.lines.loader
    (g.D.Desk.outside c.args.desk.now) c.in-Ok-Some.line c.take_line.new.loader c.in-Ended.outcome c.lines.invariant.standing c.lines.invariant.reads c.in-Ok-Some.ensures.reads
    (of_ok c.args.limits.now c.lines.lines.reader c.next.new.self.reader (g.D.Desk.outside c.next.new.desk) c.lines.lines.form c.args.words.now.proof_form c.in-Ok-Some.field-0 (Some c.in-Ok-Some.line) c.lines.invariant.form c.in-Ok-Some.field-0-is c.in-Ok-Some.ensures.line) c.in-Ended.ensures.takes

pub returns-in-Ended-clause-only : goal.returns-in-Ended-clause-only
returns-in-Ended-clause-only g c = (Reads-trans c.lines.invariant.reads c.in-Ok-Some.ensures.reads).only

pub returns-in-Conflict-clause-loads : goal.returns-in-Conflict-clause-loads
returns-in-Conflict-clause-loads g c =
    standing_conflicts c.args.limits.now (trim_said c.args.words.now) c.args.loader.formula c.args.reader c.lines.lines.reader c.next.new.self.reader (g.D.Desk.outside c.lines.desk) (g.D.Desk.outside c.next.new.desk) c.lines.loader
    (g.D.Desk.outside c.args.desk.now) c.in-Ok-Some.line c.take_line.new.loader c.lines.invariant.standing c.lines.invariant.reads c.in-Ok-Some.ensures.reads
    (of_ok c.args.limits.now c.lines.lines.reader c.next.new.self.reader (g.D.Desk.outside c.next.new.desk) c.lines.lines.form c.args.words.now.proof_form c.in-Ok-Some.field-0 (Some c.in-Ok-Some.line) c.lines.invariant.form c.in-Ok-Some.field-0-is c.in-Ok-Some.ensures.line) c.in-Conflict.ensures.takes

pub returns-in-Conflict-clause-only : goal.returns-in-Conflict-clause-only
returns-in-Conflict-clause-only g c = (Reads-trans c.lines.invariant.reads c.in-Ok-Some.ensures.reads).only

pub returns-in-Err-clause-loads : goal.returns-in-Err-clause-loads
returns-in-Err-clause-loads g c =
    subst (λ (o : Outcome). LoadsTo c.args.limits.now (trim_said c.args.words.now) c.args.loader.formula c.args.reader (g.D.Desk.outside c.next.new.desk) (Err o)) (sym c.outcome_of.ensures)
    (standing_fault c.args.limits.now (trim_said c.args.words.now) c.args.loader.formula c.args.reader c.lines.lines.reader c.next.new.self.reader (g.D.Desk.outside c.lines.desk) (g.D.Desk.outside c.next.new.desk) c.lines.loader
    (g.D.Desk.outside c.args.desk.now) _ c.in-Err.error c.lines.invariant.standing c.lines.invariant.reads c.in-Err.ensures.reads (of_err c.args.limits.now c.lines.lines.reader c.next.new.self.reader (g.D.Desk.outside c.next.new.desk) c.lines.lines.form c.args.words.now.proof_form c.in-Err.error c.lines.invariant.form c.in-Err.ensures.line))

pub returns-in-Err-clause-cause : goal.returns-in-Err-clause-cause
returns-in-Err-clause-cause g c =
    unread_cause Outcome which.Proof c.args.reader.slot (g.D.Desk.outside c.args.desk.now) (g.D.Desk.outside c.next.new.desk) c.in-Err.error c.outcome_of.result
    c.outcome_of.ensures (Reads-trans c.lines.invariant.reads c.in-Err.ensures.reads).cause

pub returns-in-Err-clause-unverified : goal.returns-in-Err-clause-unverified
returns-in-Err-clause-unverified g c = unread which.Proof c.in-Err.error c.outcome_of.result c.outcome_of.ensures

pub returns-in-Err-clause-only : goal.returns-in-Err-clause-only
returns-in-Err-clause-only g c = (Reads-trans c.lines.invariant.reads c.in-Err.ensures.reads).only

pub returns-in-Ok-None-clause-loads : goal.returns-in-Ok-None-clause-loads
returns-in-Ok-None-clause-loads g c =
    standing_none c.args.limits.now (trim_said c.args.words.now) c.args.loader.formula c.args.reader c.lines.lines.reader c.next.new.self.reader (g.D.Desk.outside c.lines.desk) (g.D.Desk.outside c.next.new.desk) c.lines.loader
    (g.D.Desk.outside c.args.desk.now) c.lines.invariant.standing c.lines.invariant.reads c.in-Ok-None.ensures.reads
    (of_ok c.args.limits.now c.lines.lines.reader c.next.new.self.reader (g.D.Desk.outside c.next.new.desk) c.lines.lines.form c.args.words.now.proof_form c.in-Ok-None.field-0 None c.lines.invariant.form c.in-Ok-None.field-0-is c.in-Ok-None.ensures.line)

pub returns-in-Ok-None-clause-only : goal.returns-in-Ok-None-clause-only
returns-in-Ok-None-clause-only g c = (Reads-trans c.lines.invariant.reads c.in-Ok-None.ensures.reads).only
