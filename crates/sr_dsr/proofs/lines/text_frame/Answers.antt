use Rattle.std.proofs.Common.{[]}
use Rattle.sr_base.specs.Contents.{Contents}
use Rattle.sr_base.specs.declared.names.LimitKind.TheVariants as limit
use Rattle.sr_model.specs.Tokens.{next}
use Rattle.sr_model.specs.Lsr.{numbers_after}
use Rattle.sr_model.specs.Dsr.{with_lemma, with_deletion, line_at}
use Rattle.sr_scan.specs.Left.{text_left, front_word}
use Rattle.sr_dsr.proofs.FrameLemmas.{gives_as}
use Rattle.sr_dsr.proofs.BeginLemmas.{text_number, text_deletion, text_other}
use Rattle.sr_dsr.proofs.lines.text_frame.Goals as goal

pub returns-in-Number-clause-frame : goal.returns-in-Number-clause-frame
returns-in-Number-clause-frame g c = λ (k : Contents) h.
    gives_as (line_at c.args.limits.now (front_word c.args.token.place c.args.token.word (text_left c.args.reader.now k))) (with_lemma (numbers_after limit.Vars c.args.limits.now.vars [] (next c.args.token (text_left c.args.reader.now k))))
    (text_left c.read_text_lemma.new.reader k) c.read_text_lemma.new.lits c.read_text_lemma.result (text_number c.args.limits.now c.args.token c.in-Number.field-0 _ c.in-Number.is) (c.read_text_lemma.ensures.frame k h)

pub returns-in-Del-clause-frame : goal.returns-in-Del-clause-frame
returns-in-Del-clause-frame g c = λ (k : Contents) h.
    gives_as (line_at c.args.limits.now (front_word c.args.token.place c.args.token.word (text_left c.args.reader.now k))) (with_deletion (numbers_after limit.Vars c.args.limits.now.vars [] (text_left c.args.reader.now k)))
    (text_left c.read_behind.new.reader k) c.read_behind.new.lits c.read_behind.result (text_deletion c.args.limits.now c.args.token _ c.in-Del.is) (c.read_behind.ensures.frame k h)

pub returns-in_default-clause-frame : goal.returns-in_default-clause-frame
returns-in_default-clause-frame g c = λ (k : Contents) h.
    rw c.misplaced.ensures (text_other c.args.limits.now c.args.token _ c.requires.some c.in_default.not-Number c.in_default.not-Del)
