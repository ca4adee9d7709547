use Rattle.std.proofs.Common.{◌≡◌, ◌∙◌, Option, Some, None, Ok, Err, subst, sym, ap, false}
use Rattle.sr_base.specs.declared.names.Form.{Form}
use Rattle.sr_base.specs.declared.names.InputError.{InputError}
use Rattle.sr_base.specs.Limits.{LimitValues}
use Rattle.sr_model.specs.LsrBinary.{item_in}
use Rattle.sr_desk.specs.Outside.{Outside}
use Rattle.sr_desk.specs.Reader.{Reader}
use Rattle.sr_desk.specs.Next.{Reads, ForContents}
use Rattle.sr_desk.proofs.ReaderLemmas.{Reads-refl, Reads-trans}
use Rattle.sr_scan.specs.Left.{tokens_left, Gives}
use Rattle.sr_wit.specs.declared.item.LsrItem.{LsrItem}
use Rattle.sr_lsr.specs.Items.{FileReader}
use Rattle.sr_lsr.specs.Reads.{item_told}
use Rattle.sr_emit.specs.declared.outcome.Outcome.{Outcome}
use Rattle.sr_cli.specs.declared.proof.Tally.{Tally}
use Rattle.sr_cli.specs.Runs.{Judges, Progress}
use Rattle.sr_cli.proofs.Standing.{progress_first, progress_more, progress_ends, progress_fault, progress_none}
use Rattle.sr_cli.proofs.proof.judge_proof.Goals as goal

-- what a reader of this form gave
of_ok : (lim : LimitValues) (now new : Reader) (p : Outside) (f g : Form) (a b : Option LsrItem) → f ≡ g → a ≡ b
    → ForContents new p (λ d. Gives (item_in f lim (tokens_left f 2 0 now d)) (tokens_left f 2 0 new d) (item_told (Ok a)))
    → ForContents new p (λ d. Gives (item_in g lim (tokens_left g 2 0 now d)) (tokens_left g 2 0 new d) (item_told (Ok b)))
of_ok lim now new p f g a b e s h =
    subst (λ (x : Form). ForContents new p (λ d. Gives (item_in x lim (tokens_left x 2 0 now d)) (tokens_left x 2 0 new d) (item_told (Ok b)))) e
    (subst (λ (y : Option LsrItem). ForContents new p (λ d. Gives (item_in f lim (tokens_left f 2 0 now d)) (tokens_left f 2 0 new d) (item_told (Ok y)))) s h)

of_err : (lim : LimitValues) (now new : Reader) (p : Outside) (f g : Form) (e : InputError) → f ≡ g
    → ForContents new p (λ d. Gives (item_in f lim (tokens_left f 2 0 now d)) (tokens_left f 2 0 new d) (item_told (Err e)))
    → ForContents new p (λ d. Gives (item_in g lim (tokens_left g 2 0 now d)) (tokens_left g 2 0 new d) (item_told (Err e)))
of_err lim now new p f g e same h = subst (λ (x : Form). ForContents new p (λ d. Gives (item_in x lim (tokens_left x 2 0 now d)) (tokens_left x 2 0 new d) (item_told (Err e)))) same h

pub returns-in-Some-clause-judges : goal.returns-in-Some-clause-judges
returns-in-Some-clause-judges g c =
    progress_ends c.args.limits.now c.args.form c.args.checker.strict g.f c.args.reader c.items.items.reader c.next.new.self.reader (g.D.Desk.outside c.items.desk) (g.D.Desk.outside c.next.new.desk) c.items.checker c.items.tally
    (g.D.Desk.outside c.args.desk.now) c.in-Ok-Some.item c.take_item.new.checker c.take_item.new.tally c.in-Some.outcome c.items.invariant.progress c.items.invariant.reads c.in-Ok-Some.ensures.reads
    (of_ok c.args.limits.now c.items.items.reader c.next.new.self.reader (g.D.Desk.outside c.next.new.desk) c.items.items.form c.args.form c.in-Ok-Some.field-0 (Some c.in-Ok-Some.item) c.items.invariant.form c.in-Ok-Some.field-0-is c.in-Ok-Some.ensures.item) c.in-Some.ensures

pub items-init : goal.items-init
items-init g c =
    let reader : c.in-Ok.items.reader ≡ c.args.reader = ap (λ (r : FileReader). r.reader) c.in-Ok.ensures in
    record {
      progress = subst (λ (r : Reader). Progress c.args.limits.now c.args.form c.args.checker.strict g.f c.args.reader r (g.D.Desk.outside c.args.desk.now) c.args.checker c.args.tally.now) (sym reader)
          (subst (λ (t : Tally). Progress c.args.limits.now c.args.form c.args.checker.strict g.f c.args.reader c.args.reader (g.D.Desk.outside c.args.desk.now) c.args.checker t) (sym c.requires.1.1.1.1)
          (progress_first c.args.limits.now c.args.form c.args.checker.strict g.f c.args.reader (g.D.Desk.outside c.args.desk.now) c.args.checker c.requires.1.1.1.0 c.requires.1.1.0));
      reads = subst (λ (r : Reader). Reads c.args.reader r (g.D.Desk.outside c.args.desk.now) (g.D.Desk.outside c.args.desk.now) false) (sym reader) (Reads-refl c.requires.1.0);
      form = ap (λ (r : FileReader). r.form) c.in-Ok.ensures;
    }

pub items-preserved : goal.items-preserved
items-preserved g c =
    record {
      progress = subst (λ (r : FileReader). Progress c.args.limits.now c.args.form c.args.checker.strict g.f c.args.reader r.reader (g.D.Desk.outside c.next.new.desk) c.take_item.new.checker c.take_item.new.tally) (sym c.reuse.ensures)
          (progress_more c.args.limits.now c.args.form c.args.checker.strict g.f c.args.reader c.items.items.reader c.next.new.self.reader (g.D.Desk.outside c.items.desk) (g.D.Desk.outside c.next.new.desk) c.items.checker c.items.tally
          c.take_item.new.checker c.take_item.new.tally c.in-Ok-Some.item c.items.invariant.progress c.in-Ok-Some.ensures.reads
          (of_ok c.args.limits.now c.items.items.reader c.next.new.self.reader (g.D.Desk.outside c.next.new.desk) c.items.items.form c.args.form c.in-Ok-Some.field-0 (Some c.in-Ok-Some.item) c.items.invariant.form c.in-Ok-Some.field-0-is c.in-Ok-Some.ensures.item) c.in-None.ensures);
      reads = subst (λ (r : FileReader). Reads c.args.reader r.reader (g.D.Desk.outside c.args.desk.now) (g.D.Desk.outside c.next.new.desk) false) (sym c.reuse.ensures)
          (Reads-trans c.items.invariant.reads c.in-Ok-Some.ensures.reads);
      form = ap (λ (r : FileReader). r.form) c.reuse.ensures ∙ c.next.ensures.form ∙ c.items.invariant.form;
    }

pub returns-in-Some-clause-only : goal.returns-in-Some-clause-only
returns-in-Some-clause-only g c = (Reads-trans c.items.invariant.reads c.in-Ok-Some.ensures.reads).only

pub returns-in-Err-clause-judges : goal.returns-in-Err-clause-judges
returns-in-Err-clause-judges g c =
    subst (λ (o : Outcome). Judges c.args.limits.now c.args.form c.args.checker.strict g.f c.args.reader (g.D.Desk.outside c.next.new.desk) o c.items.tally) (sym c.outcome_of.ensures)
    (progress_fault c.args.limits.now c.args.form c.args.checker.strict g.f c.args.reader c.items.items.reader c.next.new.self.reader (g.D.Desk.outside c.items.desk) (g.D.Desk.outside c.next.new.desk) c.items.checker c.items.tally
    (g.D.Desk.outside c.args.desk.now) _ c.in-Err.error c.items.invariant.progress c.items.invariant.reads c.in-Err.ensures.reads (of_err c.args.limits.now c.items.items.reader c.next.new.self.reader (g.D.Desk.outside c.next.new.desk) c.items.items.form c.args.form c.in-Err.error c.items.invariant.form c.in-Err.ensures.item))

pub returns-in-Err-clause-only : goal.returns-in-Err-clause-only
returns-in-Err-clause-only g c = (Reads-trans c.items.invariant.reads c.in-Err.ensures.reads).only

pub returns-in-Ok-None-clause-judges : goal.returns-in-Ok-None-clause-judges
returns-in-Ok-None-clause-judges g c =
    progress_none c.args.limits.now c.args.form c.args.checker.strict g.f c.args.reader c.items.items.reader c.next.new.self.reader (g.D.Desk.outside c.items.desk) (g.D.Desk.outside c.next.new.desk) c.items.checker c.items.tally
    (g.D.Desk.outside c.args.desk.now) c.items.invariant.progress c.items.invariant.reads c.in-Ok-None.ensures.reads
    (of_ok c.args.limits.now c.items.items.reader c.next.new.self.reader (g.D.Desk.outside c.next.new.desk) c.items.items.form c.args.form c.in-Ok-None.field-0 None c.items.invariant.form c.in-Ok-None.field-0-is c.in-Ok-None.ensures.item)

pub returns-in-Ok-None-clause-only : goal.returns-in-Ok-None-clause-only
returns-in-Ok-None-clause-only g c = (Reads-trans c.items.invariant.reads c.in-Ok-None.ensures.reads).only
