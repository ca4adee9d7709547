use Rattle.std.proofs.Common.{◌≡◌, ◌-◌, ◌++◌, ◌∷◌, [], true, length, set, get_or, refl, subst, ap, ◌∙◌, arith}
use Rattle.std.proofs.lemmas.Grind.{common_steps}
use Rattle.sr_steps.specs.declared.table.StepPlace.{StepPlace}
use Rattle.sr_steps.specs.Places.{steps_in}
use Rattle.sr_steps.specs.Adding.{takes_groups, with_group}
use Rattle.sr_steps.proofs.Growing.{begun-laid, begun-view, group-grows}
use Rattle.sr_steps.proofs.table.StepTable.add_group.Goals as goal

pub invariant_of-self : goal.invariant_of-self
invariant_of-self c = begun-laid c.self.inside.hints.items c.put_group.new.all.items c.self.inside.groups.items c.self.inside.steps.items c.put_group.ensures.before c.self.invariant

pub returns-in_default-clause-err : goal.returns-in_default-clause-err
returns-in_default-clause-err c = begun-view c.self.inside.hints.items c.put_group.new.all.items c.self.inside.groups.items c.self.inside.steps.items c.put_group.ensures.before c.self.invariant ∙ c.self.view_is

pub invariant_of-self-then-is_err : goal.invariant_of-self-then-is_err
invariant_of-self-then-is_err c =
    let groups : c.push.new.self.items ≡ c.self.inside.groups.items = grind (arith, common_steps) in
    rw groups (begun-laid c.self.inside.hints.items c.put_group.new.all.items c.self.inside.groups.items c.self.inside.steps.items c.put_group.ensures.before c.self.invariant)

pub returns-then-is_err-clause-err : goal.returns-then-is_err-clause-err
returns-then-is_err-clause-err c =
    let groups : c.push.new.self.items ≡ c.self.inside.groups.items = grind (arith, common_steps) in
    ap (λ gs. steps_in c.put_group.new.all.items gs c.self.inside.steps.items) groups
    ∙ begun-view c.self.inside.hints.items c.put_group.new.all.items c.self.inside.groups.items c.self.inside.steps.items c.put_group.ensures.before c.self.invariant ∙ c.self.view_is

pub invariant_of-self-2 : goal.invariant_of-self-2
invariant_of-self-2 c =
    let g = c.in-Ok.group in
    let t : StepPlace = record { id = c.index_mut-step.result.now.id; by_witness = c.index_mut-step.result.now.by_witness; start = c.index_mut-step.result.now.start; end = c.len-step.result } in
    let groups : c.push.new.self.items ≡ c.self.inside.groups.items ++ g ∷ [] = grind (arith, common_steps) in
    let count : c.len-last.result ≡ length c.self.inside.steps.items = grind (arith, common_steps) in
    let end : c.len-step.result ≡ length (c.self.inside.groups.items ++ g ∷ []) = grind (arith, common_steps) in
    let last : c.index_mut-step.result.now ≡ get_or c.self.inside.steps.items (length c.self.inside.steps.items - 1) c.index_mut-step.result.now = subst (λ n. c.index_mut-step.result.now ≡ get_or c.self.inside.steps.items (n - 1) c.index_mut-step.result.now) count c.index_mut-step.ensures.value in
    let takes : takes_groups (steps_in c.self.inside.hints.items c.self.inside.groups.items c.self.inside.steps.items) ≡ true = ap takes_groups c.self.view_is ∙ c.requires.takes in
    let r = group-grows c.self.inside.hints.items c.put_group.new.all.items c.self.inside.groups.items c.self.inside.steps.items c.index_mut-step.result.now t g (c.args.id, c.args.hints.now) takes last refl refl refl end
    c.in-Ok.ensures.before c.in-Ok.ensures.within c.in-Ok.ensures.group c.self.invariant in
    rw (groups, count) r.0

pub returns-clause-ok : goal.returns-clause-ok
returns-clause-ok c =
    let g = c.in-Ok.group in
    let t : StepPlace = record { id = c.index_mut-step.result.now.id; by_witness = c.index_mut-step.result.now.by_witness; start = c.index_mut-step.result.now.start; end = c.len-step.result } in
    let groups : c.push.new.self.items ≡ c.self.inside.groups.items ++ g ∷ [] = grind (arith, common_steps) in
    let count : c.len-last.result ≡ length c.self.inside.steps.items = grind (arith, common_steps) in
    let end : c.len-step.result ≡ length (c.self.inside.groups.items ++ g ∷ []) = grind (arith, common_steps) in
    let last : c.index_mut-step.result.now ≡ get_or c.self.inside.steps.items (length c.self.inside.steps.items - 1) c.index_mut-step.result.now = subst (λ n. c.index_mut-step.result.now ≡ get_or c.self.inside.steps.items (n - 1) c.index_mut-step.result.now) count c.index_mut-step.ensures.value in
    let takes : takes_groups (steps_in c.self.inside.hints.items c.self.inside.groups.items c.self.inside.steps.items) ≡ true = ap takes_groups c.self.view_is ∙ c.requires.takes in
    let r = group-grows c.self.inside.hints.items c.put_group.new.all.items c.self.inside.groups.items c.self.inside.steps.items c.index_mut-step.result.now t g (c.args.id, c.args.hints.now) takes last refl refl refl end
    c.in-Ok.ensures.before c.in-Ok.ensures.within c.in-Ok.ensures.group c.self.invariant in
    let new : set c.self.inside.steps.items (c.len-last.result - 1) t ≡ set c.self.inside.steps.items (length c.self.inside.steps.items - 1) t = ap (λ n. set c.self.inside.steps.items (n - 1) t) count in
    ap (λ gs. steps_in c.put_group.new.all.items gs (set c.self.inside.steps.items (c.len-last.result - 1) t)) groups
    ∙ ap (steps_in c.put_group.new.all.items (c.self.inside.groups.items ++ g ∷ [])) new ∙ r.1 ∙ ap (with_group (c.args.id, c.args.hints.now)) c.self.view_is
