use Rattle.std.proofs.Common.{◌++◌, ◌∷◌, [], arith, ap, ◌∙◌, sym, subst}
use Rattle.sr_load.specs.declared.records.Event.TheVariants.{Passed}
use Rattle.sr_load.specs.Holding.{IsLoading}
use Rattle.sr_load.proofs.Extending.{counted_more, count_few, keeps_passed, keeps_view}
use Rattle.sr_load.proofs.timeline.Timeline.pass.Goals as goal

pub overflow_add-self-2 : goal.overflow_add-self-2
overflow_add-self-2 c = let few = count_few _ _ _ c.self.invariant.1 in omega (arith, few, c.push_reserved.ensures.len, c.reserve.ensures.len)

pub invariant_of-self-2 : goal.invariant_of-self-2
invariant_of-self-2 c =
    let loading = subst IsLoading (sym c.self.view_is) c.requires in
    let items = c.push_reserved.ensures.items ∙ ap (λ x. x ++ Passed ∷ []) c.reserve.ensures.items in (
      keeps_view c.self.inside.formula c.self.inside.lines.items c.push_reserved.new.self.items c.self.inside.standing c.self.inside.cited c.self.inside.assumed Passed _ _ _ _ _ _ items c.self.invariant.1.within loading.none_undone (keeps_passed _ _ _ _ _ _ _ c.self.invariant.0 loading),
      rw items (counted_more c.self.inside.lines.items c.self.inside.standing c.self.inside.passed Passed c.self.invariant.1),
    )
