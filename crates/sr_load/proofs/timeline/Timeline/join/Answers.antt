use Rattle.std.proofs.Common.{◌≡◌, ◌+◌, ◌++◌, ◌∷◌, [], ◌<◌, refl, get_or, ap, ◌∙◌, sym, subst}
use Rattle.sr_trimming.specs.Loading.{joined}
use Rattle.sr_base.specs.Literal.{NoRepeats}
use Rattle.sr_lemma.specs.declared.lemma.Lemma.{Lemma}
use Rattle.sr_lemma.specs.Lines.{lemma_told}
use Rattle.sr_load.specs.declared.records.Told.{Told}
use Rattle.sr_load.specs.Records.{loaded_at}
use Rattle.sr_load.specs.Tied.{Keeps}
use Rattle.sr_load.specs.declared.records.Event.TheVariants.{Joined}
use Rattle.sr_load.specs.Loaded.{LoadedState, next_of}
use Rattle.sr_load.specs.Holding.{IsLoading, HoldsMore, with_line}
use Rattle.sr_load.proofs.Extending.{view_more, counted_kept, pivot_first, keeps_joined, keeps_view}
use Rattle.sr_load.proofs.timeline.Timeline.join.Goals as goal

pub invariant_of-self-2 : goal.invariant_of-self-2
invariant_of-self-2 c =
    let loading = subst IsLoading (sym c.self.view_is) c.requires.loading in
    let items = c.push_reserved-2.ensures.items ∙ ap (λ x. x ++ Joined c.of-told.result ∷ []) c.reserve-else-is_err.ensures.items in
    let lemma : Lemma = c.args.lemma.now in
    let h = subst (λ ls. HoldsMore c.self.inside.propagator c.hold.new.propagator c.self.inside.refs.items c.hold.new.refs.items ls) c.lits-2.ensures.value c.in_ok-hold.ensures.ok in
    let x : Told = record { pivot = c.index-lits-0.result; witness = c.take-witness.result } in
    let told = c.push_reserved.ensures.items ∙ ap (λ y. y ++ x ∷ []) c.reserve.ensures.items in
    let pivot = pivot_first lemma.clause c.index-lits-0.result c.requires.some (subst (λ ls. c.index-lits-0.result ≡ get_or ls 0 c.index-lits-0.result) c.lits.ensures.value c.index-lits-0.is) in
    let small = subst (λ (st : LoadedState). next_of st < 2147483647) (sym c.self.view_is) c.requires.small in
    let P : Lemma → Type 0 = λ y. Keeps (with_line (loaded_at c.self.inside.formula c.self.inside.lines.items c.self.inside.standing c.self.inside.cited c.self.inside.assumed) (joined (lemma_told y))) c.hold.new.propagator c.hold.new.refs.items c.push_reserved.new.self.items
    c.hold.new.flags.items c.self.inside.marks.items (c.self.inside.reached + 1) in
    let k = keeps_joined _ _ _ _ _ _ _ _ _ _ _ (lemma_told lemma) x c.self.invariant.0 loading h c.in_ok-hold.ensures.flags told pivot (sym c.take-witness.ensures.value) c.requires.pivot (subst NoRepeats c.lits-2.ensures.value (subst NoRepeats (sym c.lits-2.ensures.value) c.lits-2.ensures.distinct)) c.requires.some small in (
      keeps_view c.self.inside.formula c.self.inside.lines.items c.push_reserved-2.new.self.items c.self.inside.standing c.self.inside.cited c.self.inside.assumed (Joined c.of-told.result) _ _ _ _ _ _ items c.self.invariant.1.within loading.none_undone
          (subst P (sym c.of-told.ensures) k),
      rw items (counted_kept c.self.inside.lines.items c.self.inside.standing c.self.inside.passed (Joined c.of-told.result) refl c.self.invariant.1),
    )

pub returns-clause-ok : goal.returns-clause-ok
returns-clause-ok c =
    let loading = subst IsLoading (sym c.self.view_is) c.requires.loading in
    let items = c.push_reserved-2.ensures.items ∙ ap (λ x. x ++ Joined c.of-told.result ∷ []) c.reserve-else-is_err.ensures.items in
    rw items (view_more c.self.inside.formula c.self.inside.lines.items c.self.inside.standing c.self.inside.cited c.self.inside.assumed (Joined c.of-told.result) c.self.invariant.1.within loading.none_undone) ∙ ap (λ (st : LoadedState). with_line st (joined (lemma_told c.of-told.result.value))) c.self.view_is ∙ ap (λ l. with_line c.args.self.now (joined (lemma_told l))) c.of-told.ensures
