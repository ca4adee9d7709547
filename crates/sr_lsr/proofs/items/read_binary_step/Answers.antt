use Rattle.std.proofs.Common.{rules, ◌≡◌, ◌∙◌, ℕ, ℤ, [], Ok, Err, ap, subst, arith}
use Rattle.std.proofs.lemmas.Int.{to_z-of_z}
use mir.Val.{SFits}
use mir.Syntax.{w64}
use Rattle.sr_base.specs.Contents.{Contents}
use Rattle.sr_base.specs.declared.names.LimitKind.TheVariants as limit
use Rattle.sr_base.specs.declared.names.TextKind.TheVariants.{BadNumber}
use Rattle.sr_base.specs.declared.names.InputError.TheVariants.{Text}
use Rattle.sr_model.specs.BinaryTokens.{open_after}
use Rattle.sr_model.specs.Lsr.{numbers_after, with_literals}
use Rattle.sr_model.specs.LsrBinary.{binary_step_at}
use Rattle.sr_scan.specs.Left.{binary_left, misplaced}
use Rattle.sr_scan.proofs.ReadLemmas.{agreed}
use Rattle.sr_lemma.proofs.NumberLemmas.{open_number}
use Rattle.sr_lsr.specs.Reads.{GivesSize}
use Rattle.sr_lsr.specs.Frames.{told}
use Rattle.sr_lsr.proofs.BeginLemmas.{unbegun, refused, gives_as}
use Rattle.sr_lsr.proofs.ItemLemmas.{binary_step_hands_on, step_zero, step_numbered, step_fault, step_other, some_size}
use Rattle.sr_lsr.proofs.items.read_binary_step.Goals as goal

pub returns-in-Err-clause-item : goal.returns-in-Err-clause-item
returns-in-Err-clause-item g c = λ (k : Contents) h.
    unbegun (binary_step_at c.args.limits.now) (binary_left 2 2 c.args.reader.now k) c.in-Err.error (binary_step_hands_on c.args.limits.now) (c.in-Err.ensures.token 2 2 (omega arith) k h)

pub returns-in_default-clause-item : goal.returns-in_default-clause-item
returns-in_default-clause-item g c = λ (k : Contents) h.
    rw c.misplaced.ensures (refused (binary_step_at c.args.limits.now) (binary_left 2 2 c.args.reader.now k) _ c.in-Ok.token (Text (misplaced c.in-Ok.token.word) c.in-Ok.token.place)
    (c.in-Ok.ensures.token 2 2 (omega arith) k h) (step_other c.args.limits.now c.in-Ok.token _ c.in_default.not-Number))

pub returns-in-Err-size_within-clause-item : goal.returns-in-Err-size_within-clause-item
returns-in-Err-size_within-clause-item g c = λ (k : Contents) h.
    let fits : SFits w64 c.in-Number.x = search rules in
    let size = subst (λ (x : ℤ). GivesSize x c.ids.result c.in-Ok.token.place (Err c.in-Err-size_within.error)) (to_z-of_z w64 c.in-Number.x fits) c.in-Err-size_within.ensures in
    refused (binary_step_at c.args.limits.now) (binary_left 2 2 c.args.reader.now k) _ c.in-Ok.token c.in-Err-size_within.error (c.in-Ok.ensures.token 2 2 (omega arith) k h)
    (step_fault c.args.limits.now c.ids.result c.in-Ok.token c.in-Number.x _ c.in-Err-size_within.error c.ids.ensures.value c.in-Number.is size)

pub returns-then-id-eq0-clause-item : goal.returns-then-id-eq0-clause-item
returns-then-id-eq0-clause-item g c = λ (k : Contents) h.
    let fits : SFits w64 c.in-Number.x = search rules in
    let size = subst (λ (x : ℤ). GivesSize x c.ids.result c.in-Ok.token.place (Ok c.in-Ok-size_within.id)) (to_z-of_z w64 c.in-Number.x fits) c.in-Ok-size_within.ensures in
    refused (binary_step_at c.args.limits.now) (binary_left 2 2 c.args.reader.now k) _ c.in-Ok.token (Text BadNumber c.in-Ok.token.place) (c.in-Ok.ensures.token 2 2 (omega arith) k h)
    (step_zero c.args.limits.now c.ids.result c.in-Ok.token c.in-Number.x c.in-Ok-size_within.id _ c.in-Number.is size c.if-id-eq0.true)

pub returns-clause-item : goal.returns-clause-item
returns-clause-item g c = λ (k : Contents) h.
    let fits : SFits w64 c.in-Number.x = search rules in
    let size = subst (λ (x : ℤ). GivesSize x c.ids.result c.in-Ok.token.place (Ok c.in-Ok-size_within.id)) (to_z-of_z w64 c.in-Number.x fits) c.in-Ok-size_within.ensures in
    let given = c.in-Ok.ensures.token 2 2 (omega arith) k (agreed c.read_binary_literals.ensures.reads h) in
    let opens : open_after 2 2 c.in-Ok.token.word ≡ 2 =
    open_number 2 1 c.in-Ok.token.word c.in-Number.x c.in-Number.is (some_size c.in-Number.x c.in-Ok-size_within.id c.ids.result c.in-Ok.token.place size c.if-id-eq0.false) in
    gives_as (binary_step_at c.args.limits.now (binary_left 2 2 c.args.reader.now k))
    (with_literals c.args.limits.now c.in-Ok-size_within.id (numbers_after limit.Vars c.args.limits.now.vars [] (binary_left 2 2 c.next_token.new.reader k)))
    (binary_left 2 0 c.read_binary_literals.new.reader k) (told c.read_binary_literals.new.lists c.read_binary_literals.result) (
    ap (binary_step_at c.args.limits.now) given.0
    ∙ step_numbered c.args.limits.now c.ids.result c.in-Ok.token c.in-Number.x c.in-Ok-size_within.id _ c.ids.ensures.value c.in-Number.is size c.if-id-eq0.false
    ∙ ap (λ (n : ℕ). with_literals c.args.limits.now c.in-Ok-size_within.id (numbers_after limit.Vars c.args.limits.now.vars [] (binary_left 2 n c.next_token.new.reader k))) opens)
    (c.read_binary_literals.ensures.item k h)
