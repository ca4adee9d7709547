use Rattle.std.proofs.Common.{◌≡◌, ◌++◌, ◌∷◌, [], true, refl, arith, ap, ◌∙◌, sym, subst}
use Rattle.sr_trimming.specs.Loading.{removed}
use Rattle.sr_load.specs.declared.records.Event.TheVariants.{Removed}
use Rattle.sr_load.specs.Loaded.{LoadedState, alive_in}
use Rattle.sr_load.specs.Numbers.{has_clause}
use Rattle.sr_load.specs.Holding.{IsLoading, with_line}
use Rattle.sr_load.proofs.Keeping.{alive_within, alive_attached}
use Rattle.sr_load.proofs.Extending.{view_more, counted_kept, keeps_removed, keeps_view}
use Rattle.sr_load.proofs.timeline.Timeline.remove.Goals as goal

pub overflow_sub-id : goal.overflow_sub-id
overflow_sub-id c = (alive_within _ _ _ _ _ _ _ c.args.id c.self.invariant.0 (subst (λ (st : LoadedState). has_clause (alive_in st) c.args.id ≡ true) (sym c.self.view_is) c.requires.alive)).0

pub index-at-requires : goal.index-at-requires
index-at-requires c = let r = alive_within _ _ _ _ _ _ _ c.args.id c.self.invariant.0 (subst (λ (st : LoadedState). has_clause (alive_in st) c.args.id ≡ true) (sym c.self.view_is) c.requires.alive) in omega (arith, r.0, r.1)

pub detach-requires : goal.detach-requires
detach-requires c = alive_attached _ _ _ _ _ _ _ c.args.id _ c.self.invariant.0 (subst (λ (st : LoadedState). has_clause (alive_in st) c.args.id ≡ true) (sym c.self.view_is) c.requires.alive) c.index-at.ensures

pub invariant_of-self-2 : goal.invariant_of-self-2
invariant_of-self-2 c =
    let loading = subst IsLoading (sym c.self.view_is) c.requires.loading in
    let alive = subst (λ (st : LoadedState). has_clause (alive_in st) c.args.id ≡ true) (sym c.self.view_is) c.requires.alive in
    let items = c.push_reserved.ensures.items ∙ ap (λ x. x ++ Removed c.args.id ∷ []) c.reserve.ensures.items in (
      keeps_view c.self.inside.formula c.self.inside.lines.items c.push_reserved.new.self.items c.self.inside.standing c.self.inside.cited c.self.inside.assumed (Removed c.args.id) _ _ _ _ _ _ items c.self.invariant.1.within loading.none_undone
          (keeps_removed _ _ _ _ _ _ _ _ c.args.id _ c.detach.ensures.value.0 c.self.invariant.0 loading alive c.index-at.ensures c.detach.ensures.value.1 c.detach.ensures.cells),
      rw items (counted_kept c.self.inside.lines.items c.self.inside.standing c.self.inside.passed (Removed c.args.id) refl c.self.invariant.1),
    )

pub returns-clause-ok : goal.returns-clause-ok
returns-clause-ok c =
    let loading = subst IsLoading (sym c.self.view_is) c.requires.loading in
    let items = c.push_reserved.ensures.items ∙ ap (λ x. x ++ Removed c.args.id ∷ []) c.reserve.ensures.items in
    rw items (view_more c.self.inside.formula c.self.inside.lines.items c.self.inside.standing c.self.inside.cited c.self.inside.assumed (Removed c.args.id) c.self.invariant.1.within loading.none_undone) ∙ ap (λ (st : LoadedState). with_line st (removed c.args.id)) c.self.view_is
