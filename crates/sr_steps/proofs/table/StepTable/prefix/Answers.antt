use Rattle.std.proofs.Common.{◌≡◌, ◌<◌, ◌≤◌, ◌-◌, false, length, get_or, map, sym, subst, ap, ◌∙◌}
use Rattle.std.specs.Prelude.{slice_range}
use Rattle.sr_steps.specs.Adding.{bare}
use Rattle.sr_steps.specs.Groups.{group_of}
use Rattle.sr_steps.specs.Places.{kept_of}
use Rattle.sr_steps.proofs.Reading.{Lies, view-length, view-at, lies, hints-of}
use Rattle.sr_steps.proofs.table.StepTable.prefix.Goals as goal

pub between-requires-2-clause-order : goal.between-requires-2-clause-order
between-requires-2-clause-order c =
    let is : c.deref.result.now ≡ c.self.inside.steps.items = c.deref.ensures.value in
    let at : c.place_at-step.result ≡ get_or c.self.inside.steps.items (length c.self.inside.steps.items - 1 - c.args.i) c.place_at-step.result = subst (λ ss. c.place_at-step.result ≡ get_or ss (length ss - 1 - c.args.i) c.place_at-step.result) is c.place_at-step.ensures in
    let few : c.args.i < length c.self.inside.steps.items = subst (λ n. c.args.i < n) (sym (ap length c.self.view_is) ∙ view-length c.self.inside.hints.items c.self.inside.groups.items c.self.inside.steps.items) c.requires in
    let l : Lies (length c.self.inside.hints.items) (length c.self.inside.groups.items) c.place_at-step.result = lies c.self.inside.hints.items c.self.inside.groups.items c.self.inside.steps.items c.args.i c.place_at-step.result c.self.invariant few at in
    let view : get_or c.args.self.now c.args.i (bare 0 false) ≡ kept_of c.self.inside.hints.items (map (group_of c.self.inside.hints.items) c.self.inside.groups.items) c.place_at-step.result = ap (λ ks. get_or ks c.args.i (bare 0 false)) (sym c.self.view_is) ∙ view-at c.self.inside.hints.items c.self.inside.groups.items c.self.inside.steps.items c.args.i c.place_at-step.result few at in
    l.order

pub between-requires-2-clause-within : goal.between-requires-2-clause-within
between-requires-2-clause-within c =
    let is : c.deref.result.now ≡ c.self.inside.steps.items = c.deref.ensures.value in
    let at : c.place_at-step.result ≡ get_or c.self.inside.steps.items (length c.self.inside.steps.items - 1 - c.args.i) c.place_at-step.result = subst (λ ss. c.place_at-step.result ≡ get_or ss (length ss - 1 - c.args.i) c.place_at-step.result) is c.place_at-step.ensures in
    let few : c.args.i < length c.self.inside.steps.items = subst (λ n. c.args.i < n) (sym (ap length c.self.view_is) ∙ view-length c.self.inside.hints.items c.self.inside.groups.items c.self.inside.steps.items) c.requires in
    let l : Lies (length c.self.inside.hints.items) (length c.self.inside.groups.items) c.place_at-step.result = lies c.self.inside.hints.items c.self.inside.groups.items c.self.inside.steps.items c.args.i c.place_at-step.result c.self.invariant few at in
    let view : get_or c.args.self.now c.args.i (bare 0 false) ≡ kept_of c.self.inside.hints.items (map (group_of c.self.inside.hints.items) c.self.inside.groups.items) c.place_at-step.result = ap (λ ks. get_or ks c.args.i (bare 0 false)) (sym c.self.view_is) ∙ view-at c.self.inside.hints.items c.self.inside.groups.items c.self.inside.steps.items c.args.i c.place_at-step.result few at in
    subst (λ hs. c.place_at-step.result.end ≤ length hs) (sym c.deref-2.ensures.value) (l.plain c.if-step.false)

pub returns : goal.returns
returns c =
    let is : c.deref.result.now ≡ c.self.inside.steps.items = c.deref.ensures.value in
    let at : c.place_at-step.result ≡ get_or c.self.inside.steps.items (length c.self.inside.steps.items - 1 - c.args.i) c.place_at-step.result = subst (λ ss. c.place_at-step.result ≡ get_or ss (length ss - 1 - c.args.i) c.place_at-step.result) is c.place_at-step.ensures in
    let few : c.args.i < length c.self.inside.steps.items = subst (λ n. c.args.i < n) (sym (ap length c.self.view_is) ∙ view-length c.self.inside.hints.items c.self.inside.groups.items c.self.inside.steps.items) c.requires in
    let l : Lies (length c.self.inside.hints.items) (length c.self.inside.groups.items) c.place_at-step.result = lies c.self.inside.hints.items c.self.inside.groups.items c.self.inside.steps.items c.args.i c.place_at-step.result c.self.invariant few at in
    let view : get_or c.args.self.now c.args.i (bare 0 false) ≡ kept_of c.self.inside.hints.items (map (group_of c.self.inside.hints.items) c.self.inside.groups.items) c.place_at-step.result = ap (λ ks. get_or ks c.args.i (bare 0 false)) (sym c.self.view_is) ∙ view-at c.self.inside.hints.items c.self.inside.groups.items c.self.inside.steps.items c.args.i c.place_at-step.result few at in
    c.between-2.ensures ∙ ap (λ hs. slice_range hs c.place_at-step.result.start c.place_at-step.result.end) c.deref-2.ensures.value
    ∙ sym (ap (λ k. k.prefix) view ∙ hints-of c.self.inside.hints.items (map (group_of c.self.inside.hints.items) c.self.inside.groups.items) c.place_at-step.result c.if-step.false)
