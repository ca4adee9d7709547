use Rattle.std.proofs.Common.{rules, ℤ, Ok, Err, subst}
use Rattle.std.proofs.lemmas.Int.{to_z-of_z}
use mir.Val.{SFits}
use mir.Syntax.{w64}
use Rattle.sr_base.specs.Contents.{Contents}
use Rattle.sr_model.specs.Lsr.{kind_at, item_at}
use Rattle.sr_scan.specs.Left.{text_left, front_word}
use Rattle.sr_lsr.specs.Reads.{GivesSize}
use Rattle.sr_lsr.specs.Frames.{told}
use Rattle.sr_lsr.proofs.BeginLemmas.{gives_as}
use Rattle.sr_lsr.proofs.ItemLemmas.{text_numbered, text_fault, text_other}
use Rattle.sr_lsr.proofs.items.text_item.Goals as goal

pub returns-in-Ok-clause-item : goal.returns-in-Ok-clause-item
returns-in-Ok-clause-item g c = λ (k : Contents) h.
    let fits : SFits w64 c.in-Number.x = search rules in
    let size = subst (λ (x : ℤ). GivesSize x c.ids.result c.args.token.place (Ok c.in-Ok.id)) (to_z-of_z w64 c.in-Number.x fits) c.in-Ok.ensures in
    gives_as (item_at c.args.limits.now (front_word c.args.token.place c.args.token.word (text_left c.args.reader.now k))) (kind_at c.args.limits.now c.in-Ok.id c.args.token.place (text_left c.args.reader.now k))
    (text_left c.read_numbered.new.reader k) (told c.read_numbered.new.lists c.read_numbered.result)
    (text_numbered c.args.limits.now c.ids.result c.args.token c.in-Number.x c.in-Ok.id _ c.ids.ensures.value c.in-Number.is size) (c.read_numbered.ensures.item k h)

pub returns-in-Err-clause-item : goal.returns-in-Err-clause-item
returns-in-Err-clause-item g c = λ (k : Contents) h.
    let fits : SFits w64 c.in-Number.x = search rules in
    let size = subst (λ (x : ℤ). GivesSize x c.ids.result c.args.token.place (Err c.in-Err.error)) (to_z-of_z w64 c.in-Number.x fits) c.in-Err.ensures in
    text_fault c.args.limits.now c.ids.result c.args.token c.in-Number.x _ c.in-Err.error c.ids.ensures.value c.in-Number.is size

pub returns-in_default-clause-item : goal.returns-in_default-clause-item
returns-in_default-clause-item g c = λ (k : Contents) h. text_other c.args.limits.now c.args.token _ c.requires.some c.in_default.not-Number
