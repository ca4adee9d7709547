use Rattle.std.proofs.Common.{◌∙◌, [], ap, arith}
use Rattle.sr_base.specs.Contents.{Contents}
use Rattle.sr_base.specs.declared.names.LimitKind.TheVariants as limit
use Rattle.sr_base.specs.declared.names.InputError.TheVariants as error
use Rattle.sr_model.specs.Tokens.{next}
use Rattle.sr_model.specs.Lsr.{numbers_after, dropped_after, with_literals, kind_at}
use Rattle.sr_scan.specs.Left.{text_left, misplaced}
use Rattle.sr_scan.proofs.ReadLemmas.{agreed}
use Rattle.sr_lsr.specs.Frames.{told}
use Rattle.sr_lsr.proofs.BeginLemmas.{unbegun, refused, gives_as}
use Rattle.sr_lsr.proofs.ItemLemmas.{numbered_hands_on, kind_deletion, kind_step, kind_other}
use Rattle.sr_lsr.proofs.items.read_numbered.Goals as goal

pub returns-in-Err-clause-item : goal.returns-in-Err-clause-item
returns-in-Err-clause-item g c = λ (k : Contents) h.
    unbegun (kind_at c.args.limits.now c.args.id c.args.place) (text_left c.args.reader.now k) c.in-Err.error (numbered_hands_on c.args.limits.now c.args.id c.args.place) (c.in-Err.ensures.token 2 2 (omega arith) k h)

pub returns-in-Del-clause-item : goal.returns-in-Del-clause-item
returns-in-Del-clause-item g c = λ (k : Contents) h.
    let given = c.in-Ok.ensures.token 2 2 (omega arith) k (agreed c.read_drop.ensures.reads h) in
    gives_as (kind_at c.args.limits.now c.args.id c.args.place (text_left c.args.reader.now k)) (dropped_after c.ids.result c.args.id [] (text_left c.next_token.new.reader k))
    (text_left c.read_drop.new.reader k) (told c.read_drop.new.lists c.read_drop.result) (
    ap (kind_at c.args.limits.now c.args.id c.args.place) given.0 ∙ kind_deletion c.args.limits.now c.ids.result c.args.id c.args.place c.in-Ok.token _ c.ids.ensures.value c.in-Del.is)
    (c.read_drop.ensures.item k h)

pub returns-else-id-eq0-clause-item : goal.returns-else-id-eq0-clause-item
returns-else-id-eq0-clause-item g c = λ (k : Contents) h.
    let given = c.in-Ok.ensures.token 2 2 (omega arith) k (agreed c.read_text_step.ensures.reads h) in
    gives_as (kind_at c.args.limits.now c.args.id c.args.place (text_left c.args.reader.now k))
    (with_literals c.args.limits.now c.args.id (numbers_after limit.Vars c.args.limits.now.vars [] (next c.in-Ok.token (text_left c.next_token.new.reader k))))
    (text_left c.read_text_step.new.reader k) (told c.read_text_step.new.lists c.read_text_step.result) (
    ap (kind_at c.args.limits.now c.args.id c.args.place) given.0 ∙ kind_step c.args.limits.now c.args.id c.args.place c.in-Ok.token c.in-Number.field-0 _ c.in-Number.is c.if-id-eq0.false)
    (c.read_text_step.ensures.item k h)

pub returns-in_default-clause-item : goal.returns-in_default-clause-item
returns-in_default-clause-item g c = λ (k : Contents) h.
    rw c.misplaced.ensures (refused (kind_at c.args.limits.now c.args.id c.args.place) (text_left c.args.reader.now k) _ c.in-Ok.token (error.Text (misplaced c.in-Ok.token.word) c.in-Ok.token.place)
    (c.in-Ok.ensures.token 2 2 (omega arith) k h) (kind_other c.args.limits.now c.args.id c.args.place c.in-Ok.token _ c.in_default.not-Del c.in_default.not-Number))
