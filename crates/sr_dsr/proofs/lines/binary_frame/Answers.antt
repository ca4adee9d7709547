use Rattle.std.proofs.Common.{◌∙◌, ℕ, [], ap}
use Rattle.sr_base.specs.Contents.{Contents}
use Rattle.sr_base.specs.declared.names.LimitKind.TheVariants as limit
use Rattle.sr_model.specs.BinaryTokens.{open_after}
use Rattle.sr_model.specs.Lsr.{numbers_after}
use Rattle.sr_model.specs.Dsr.{with_lemma, with_deletion, binary_line_at}
use Rattle.sr_scan.specs.Left.{binary_left, front_word}
use Rattle.sr_dsr.proofs.FrameLemmas.{gives_as}
use Rattle.sr_dsr.proofs.BeginLemmas.{binary_lemma, binary_deletion, binary_other}
use Rattle.sr_dsr.proofs.lines.binary_frame.Goals as goal

pub returns-in-Add-clause-frame : goal.returns-in-Add-clause-frame
returns-in-Add-clause-frame g c = λ (k : Contents) h.
    gives_as (binary_line_at c.args.limits.now (front_word c.args.token.place c.args.token.word (binary_left 1 (open_after 1 0 c.args.token.word) c.args.reader.now k)))
    (with_lemma (numbers_after limit.Vars c.args.limits.now.vars [] (binary_left 1 1 c.args.reader.now k))) (binary_left 1 0 c.read_behind.new.reader k) c.read_behind.new.lits c.read_behind.result (
    binary_lemma c.args.limits.now c.args.token _ c.in-Add.is ∙ ap (λ (n : ℕ). with_lemma (numbers_after limit.Vars c.args.limits.now.vars [] (binary_left 1 n c.args.reader.now k))) (ap (open_after 1 0) c.in-Add.is))
    (c.read_behind.ensures.frame k h)

pub returns-in-Del-clause-frame : goal.returns-in-Del-clause-frame
returns-in-Del-clause-frame g c = λ (k : Contents) h.
    gives_as (binary_line_at c.args.limits.now (front_word c.args.token.place c.args.token.word (binary_left 1 (open_after 1 0 c.args.token.word) c.args.reader.now k)))
    (with_deletion (numbers_after limit.Vars c.args.limits.now.vars [] (binary_left 1 1 c.args.reader.now k))) (binary_left 1 0 c.read_behind-in-Del.new.reader k) c.read_behind-in-Del.new.lits c.read_behind-in-Del.result (
    binary_deletion c.args.limits.now c.args.token _ c.in-Del.is ∙ ap (λ (n : ℕ). with_deletion (numbers_after limit.Vars c.args.limits.now.vars [] (binary_left 1 n c.args.reader.now k))) (ap (open_after 1 0) c.in-Del.is))
    (c.read_behind-in-Del.ensures.frame k h)

pub returns-in_default-clause-frame : goal.returns-in_default-clause-frame
returns-in_default-clause-frame g c = λ (k : Contents) h.
    rw c.misplaced.ensures (binary_other c.args.limits.now c.args.token _ c.requires.some c.in_default.not-Add c.in_default.not-Del)
