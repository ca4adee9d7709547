use Rattle.std.proofs.Common.{◌≡◌, ◌∙◌, ◌-◌, sym, ap, subst}
use Rattle.sr_base.specs.Contents.{Contents}
use Rattle.sr_model.specs.Tokens.{Tokens, finished}
use Rattle.sr_scan.specs.Lexeme.{begun}
use Rattle.sr_scan.specs.Machine.{machine_left, texts_in, within}
use Rattle.sr_scan.specs.Left.{GivesToken}
use Rattle.sr_scan.proofs.ReadLemmas.{agreed}
use Rattle.sr_scan.proofs.text.machine_item.Goals as goal

pub returns-in-Ok-None-clause-token : goal.returns-in-Ok-None-clause-token
returns-in-Ok-None-clause-token g c = λ (k : Contents) h.
    let both : (machine_left c.args.reader.now k ≡ finished c.begin.new.reader.taken) × (machine_left c.begin.new.reader k ≡ finished c.begin.new.reader.taken) =
    rw c.in-Ok-None.field-0-is at c.in-Ok-None.ensures.begins k h in
    let place = ap finished (sym c.place.ensures.value) in
    (both.0 ∙ place, λ e. both.1 ∙ place)

pub returns-in-Ok-Some-clause-token : goal.returns-in-Ok-Some-clause-token
returns-in-Ok-Some-clause-token g c = λ (k : Contents) h.
    let begins : machine_left c.args.reader.now k ≡ texts_in (within (c.begin.new.reader.taken - 1) (begun c.in-Ok-Some.first)) c.begin.new.reader k =
    rw c.in-Ok-Some.field-0-is at c.in-Ok-Some.ensures.begins k (agreed c.whole.ensures.reads h) in
    subst (λ (t : Tokens). GivesToken t (machine_left c.whole.new.reader k) c.whole.result) (sym begins) (c.whole.ensures.token k h)
