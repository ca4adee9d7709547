use Rattle.std.proofs.Common.{◌≡◌, ◌++◌, ◌∷◌, [], false, length, ap, ◌∙◌, arith}
use Rattle.std.proofs.lemmas.Grind.{common_steps}
use Rattle.sr_steps.specs.Places.{steps_in}
use Rattle.sr_steps.proofs.Growing.{hints-laid, hints-view, plain_place, push-laid, push-view}
use Rattle.sr_steps.proofs.table.StepTable.push.Goals as goal

pub invariant_of-self-then-is_err-2 : goal.invariant_of-self-then-is_err-2
invariant_of-self-then-is_err-2 c =
    let hints : c.extend_from_slice.new.self.items ≡ c.self.inside.hints.items ++ c.args.prefix.now = grind (arith, common_steps) in
    let steps : c.push.new.self.items ≡ c.self.inside.steps.items = grind (arith, common_steps) in
    rw (hints, steps) (hints-laid c.self.inside.hints.items c.args.prefix.now c.self.inside.groups.items c.self.inside.steps.items c.self.invariant)

pub returns-then-is_err-2-clause-err : goal.returns-then-is_err-2-clause-err
returns-then-is_err-2-clause-err c =
    let hints : c.extend_from_slice.new.self.items ≡ c.self.inside.hints.items ++ c.args.prefix.now = grind (arith, common_steps) in
    let steps : c.push.new.self.items ≡ c.self.inside.steps.items = grind (arith, common_steps) in
    ap (λ hs. steps_in hs c.self.inside.groups.items c.push.new.self.items) hints ∙ ap (λ ss. steps_in (c.self.inside.hints.items ++ c.args.prefix.now) c.self.inside.groups.items ss) steps
    ∙ hints-view c.self.inside.hints.items c.args.prefix.now c.self.inside.groups.items c.self.inside.steps.items c.self.invariant ∙ c.self.view_is

pub invariant_of-self-2 : goal.invariant_of-self-2
invariant_of-self-2 c =
    let hints : c.extend_from_slice.new.self.items ≡ c.self.inside.hints.items ++ c.args.prefix.now = grind (arith, common_steps) in
    let steps : c.push.new.self.items ≡ c.self.inside.steps.items ++ plain_place c.args.id c.len-start.result c.len-end.result ∷ [] = grind (arith, common_steps) in
    let start : c.len-start.result ≡ length c.self.inside.hints.items = grind (arith, common_steps) in
    let end : c.len-end.result ≡ length (c.self.inside.hints.items ++ c.args.prefix.now) = grind (arith, common_steps) in
    rw (hints, steps) (push-laid c.self.inside.hints.items c.args.prefix.now c.self.inside.groups.items c.self.inside.steps.items c.args.id c.len-start.result c.len-end.result start end c.self.invariant)

pub returns-clause-ok : goal.returns-clause-ok
returns-clause-ok c =
    let hints : c.extend_from_slice.new.self.items ≡ c.self.inside.hints.items ++ c.args.prefix.now = grind (arith, common_steps) in
    let steps : c.push.new.self.items ≡ c.self.inside.steps.items ++ plain_place c.args.id c.len-start.result c.len-end.result ∷ [] = grind (arith, common_steps) in
    let start : c.len-start.result ≡ length c.self.inside.hints.items = grind (arith, common_steps) in
    let end : c.len-end.result ≡ length (c.self.inside.hints.items ++ c.args.prefix.now) = grind (arith, common_steps) in
    ap (λ hs. steps_in hs c.self.inside.groups.items c.push.new.self.items) hints ∙ ap (λ ss. steps_in (c.self.inside.hints.items ++ c.args.prefix.now) c.self.inside.groups.items ss) steps
    ∙ push-view c.self.inside.hints.items c.args.prefix.now c.self.inside.groups.items c.self.inside.steps.items c.args.id c.len-start.result c.len-end.result start end c.self.invariant
    ∙ ap (λ ks. record { id = c.args.id; by_witness = false; prefix = c.args.prefix.now; groups = [] } ∷ ks) c.self.view_is
