use Rattle.std.proofs.Common.{◌≡◌, ◌<◌, ◌≤◌, ◌-◌, false, length, get_or, map, sym, subst, ap, ◌∙◌, arith}
use Rattle.std.proofs.lemmas.List.{length-map}
use Rattle.sr_steps.specs.Adding.{bare}
use Rattle.sr_steps.specs.Groups.{group_of}
use Rattle.sr_steps.specs.Places.{kept_of}
use Rattle.sr_steps.proofs.Reading.{Lies, view-length, view-at, lies, groups-of, no-groups, length-range}
use Rattle.sr_steps.proofs.table.StepTable.group_count.Goals as goal

pub overflow_sub-result : goal.overflow_sub-result
overflow_sub-result c =
    let is : c.deref.result.now ≡ c.self.inside.steps.items = c.deref.ensures.value in
    let at : c.place_at-step.result ≡ get_or c.self.inside.steps.items (length c.self.inside.steps.items - 1 - c.args.i) c.place_at-step.result = subst (λ ss. c.place_at-step.result ≡ get_or ss (length ss - 1 - c.args.i) c.place_at-step.result) is c.place_at-step.ensures in
    let few : c.args.i < length c.self.inside.steps.items = subst (λ n. c.args.i < n) (sym (ap length c.self.view_is) ∙ view-length c.self.inside.hints.items c.self.inside.groups.items c.self.inside.steps.items) c.requires in
    let l : Lies (length c.self.inside.hints.items) (length c.self.inside.groups.items) c.place_at-step.result = lies c.self.inside.hints.items c.self.inside.groups.items c.self.inside.steps.items c.args.i c.place_at-step.result c.self.invariant few at in
    let view : get_or c.args.self.now c.args.i (bare 0 false) ≡ kept_of c.self.inside.hints.items (map (group_of c.self.inside.hints.items) c.self.inside.groups.items) c.place_at-step.result = ap (λ ks. get_or ks c.args.i (bare 0 false)) (sym c.self.view_is) ∙ view-at c.self.inside.hints.items c.self.inside.groups.items c.self.inside.steps.items c.args.i c.place_at-step.result few at in
    l.order

pub returns-then-step : goal.returns-then-step
returns-then-step c =
    let is : c.deref.result.now ≡ c.self.inside.steps.items = c.deref.ensures.value in
    let at : c.place_at-step.result ≡ get_or c.self.inside.steps.items (length c.self.inside.steps.items - 1 - c.args.i) c.place_at-step.result = subst (λ ss. c.place_at-step.result ≡ get_or ss (length ss - 1 - c.args.i) c.place_at-step.result) is c.place_at-step.ensures in
    let few : c.args.i < length c.self.inside.steps.items = subst (λ n. c.args.i < n) (sym (ap length c.self.view_is) ∙ view-length c.self.inside.hints.items c.self.inside.groups.items c.self.inside.steps.items) c.requires in
    let l : Lies (length c.self.inside.hints.items) (length c.self.inside.groups.items) c.place_at-step.result = lies c.self.inside.hints.items c.self.inside.groups.items c.self.inside.steps.items c.args.i c.place_at-step.result c.self.invariant few at in
    let view : get_or c.args.self.now c.args.i (bare 0 false) ≡ kept_of c.self.inside.hints.items (map (group_of c.self.inside.hints.items) c.self.inside.groups.items) c.place_at-step.result = ap (λ ks. get_or ks c.args.i (bare 0 false)) (sym c.self.view_is) ∙ view-at c.self.inside.hints.items c.self.inside.groups.items c.self.inside.steps.items c.args.i c.place_at-step.result few at in
    let gs = map (group_of c.self.inside.hints.items) c.self.inside.groups.items in
    let end : c.place_at-step.result.end ≤ length c.self.inside.groups.items = l.grouped c.if-step.true in
    sym (ap (λ k. length k.groups) view ∙ ap length (groups-of c.self.inside.hints.items gs c.place_at-step.result c.if-step.true)
    ∙ length-range gs c.place_at-step.result.start c.place_at-step.result.end (omega (arith, length-map c.self.inside.groups.items (group_of c.self.inside.hints.items))))

pub returns : goal.returns
returns c =
    let is : c.deref.result.now ≡ c.self.inside.steps.items = c.deref.ensures.value in
    let at : c.place_at-step.result ≡ get_or c.self.inside.steps.items (length c.self.inside.steps.items - 1 - c.args.i) c.place_at-step.result = subst (λ ss. c.place_at-step.result ≡ get_or ss (length ss - 1 - c.args.i) c.place_at-step.result) is c.place_at-step.ensures in
    let few : c.args.i < length c.self.inside.steps.items = subst (λ n. c.args.i < n) (sym (ap length c.self.view_is) ∙ view-length c.self.inside.hints.items c.self.inside.groups.items c.self.inside.steps.items) c.requires in
    let l : Lies (length c.self.inside.hints.items) (length c.self.inside.groups.items) c.place_at-step.result = lies c.self.inside.hints.items c.self.inside.groups.items c.self.inside.steps.items c.args.i c.place_at-step.result c.self.invariant few at in
    let view : get_or c.args.self.now c.args.i (bare 0 false) ≡ kept_of c.self.inside.hints.items (map (group_of c.self.inside.hints.items) c.self.inside.groups.items) c.place_at-step.result = ap (λ ks. get_or ks c.args.i (bare 0 false)) (sym c.self.view_is) ∙ view-at c.self.inside.hints.items c.self.inside.groups.items c.self.inside.steps.items c.args.i c.place_at-step.result few at in
    sym (ap (λ k. length k.groups) view ∙ ap length (no-groups c.self.inside.hints.items (map (group_of c.self.inside.hints.items) c.self.inside.groups.items) c.place_at-step.result c.if-step.false))
