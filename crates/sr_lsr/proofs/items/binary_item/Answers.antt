use Rattle.std.proofs.Common.{◌∙◌, ℕ, [], ap}
use Rattle.sr_base.specs.Contents.{Contents}
use Rattle.sr_model.specs.BinaryTokens.{open_after}
use Rattle.sr_model.specs.Lsr.{dropped_after}
use Rattle.sr_model.specs.LsrBinary.{binary_step_at, binary_item_at}
use Rattle.sr_scan.specs.Left.{binary_left, front_word}
use Rattle.sr_lsr.specs.Frames.{told}
use Rattle.sr_lsr.proofs.BeginLemmas.{gives_as}
use Rattle.sr_lsr.proofs.ItemLemmas.{binary_step, binary_deletion, binary_other}
use Rattle.sr_lsr.proofs.items.binary_item.Goals as goal

pub returns-in-Add-clause-item : goal.returns-in-Add-clause-item
returns-in-Add-clause-item g c = λ (k : Contents) h.
    gives_as (binary_item_at c.args.limits.now (front_word c.args.token.place c.args.token.word (binary_left 2 (open_after 2 0 c.args.token.word) c.args.reader.now k)))
    (binary_step_at c.args.limits.now (binary_left 2 2 c.args.reader.now k)) (binary_left 2 0 c.read_binary_step.new.reader k) (told c.read_binary_step.new.lists c.read_binary_step.result) (
    binary_step c.args.limits.now c.args.token _ c.in-Add.is ∙ ap (λ (n : ℕ). binary_step_at c.args.limits.now (binary_left 2 n c.args.reader.now k)) (ap (open_after 2 0) c.in-Add.is))
    (c.read_binary_step.ensures.item k h)

pub returns-in-Del-clause-item : goal.returns-in-Del-clause-item
returns-in-Del-clause-item g c = λ (k : Contents) h.
    gives_as (binary_item_at c.args.limits.now (front_word c.args.token.place c.args.token.word (binary_left 2 (open_after 2 0 c.args.token.word) c.args.reader.now k)))
    (dropped_after c.ids.result 0 [] (binary_left 2 1 c.args.reader.now k)) (binary_left 2 0 c.read_drop.new.reader k) (told c.read_drop.new.lists c.read_drop.result) (
    binary_deletion c.args.limits.now c.ids.result c.args.token _ c.ids.ensures.value c.in-Del.is ∙ ap (λ (n : ℕ). dropped_after c.ids.result 0 [] (binary_left 2 n c.args.reader.now k)) (ap (open_after 2 0) c.in-Del.is))
    (c.read_drop.ensures.item k h)

pub returns-in_default-clause-item : goal.returns-in_default-clause-item
returns-in_default-clause-item g c = λ (k : Contents) h. binary_other c.args.limits.now c.args.token _ c.requires.some c.in_default.not-Add c.in_default.not-Del
