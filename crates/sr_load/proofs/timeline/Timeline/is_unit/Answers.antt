use Rattle.std.proofs.Common.{◌≡◌, ◌∙◌, sym, subst, []}
use Rattle.sr_model.specs.Refutation.{Refutes}
use Rattle.sr_model.specs.Chain.{clauses}
use Rattle.sr_trimming.specs.Loading.{IsUnit}
use Rattle.sr_load.specs.Loaded.{LoadedState, alive_in}
use Rattle.sr_load.proofs.Alike.{keeps_derived}
use Rattle.sr_load.proofs.Forcing.{closed_now, is_unit_yes, is_unit_only}
use Rattle.sr_load.proofs.timeline.Timeline.is_unit.Goals as goal

pub invariant_of-self : goal.invariant_of-self
invariant_of-self c = (keeps_derived _ _ _ _ _ _ _ _ c.self.invariant.0 c.propagate-found.ensures.derives c.propagate-found.ensures.cells c.propagate-found.ensures.sound, c.self.invariant.1)

pub returns-clause-yes : goal.returns-clause-yes
returns-clause-yes c h =
    let k = keeps_derived _ _ _ _ _ _ _ _ c.self.invariant.0 c.propagate-found.ensures.derives c.propagate-found.ensures.cells c.propagate-found.ensures.sound in
    let closed = closed_now _ _ _ _ _ _ _ c.propagate-found.result k c.propagate-found.ensures.sound c.propagate-found.ensures.means (subst (λ (st : LoadedState). st.assumed ≡ []) (sym c.self.view_is) c.requires.none) (subst (λ (st : LoadedState). ¬ Refutes (clauses (alive_in st)) []) (sym c.self.view_is) c.requires.open) in
    subst (λ (st : LoadedState). IsUnit (clauses (alive_in st)) c.args.lits.now) c.self.view_is (is_unit_yes _ _ c.args.lits.now closed c.propagate-found.ensures.least (sym c.is_unit_in.ensures ∙ h))

pub returns-clause-only : goal.returns-clause-only
returns-clause-only c u =
    let k = keeps_derived _ _ _ _ _ _ _ _ c.self.invariant.0 c.propagate-found.ensures.derives c.propagate-found.ensures.cells c.propagate-found.ensures.sound in
    let closed = closed_now _ _ _ _ _ _ _ c.propagate-found.result k c.propagate-found.ensures.sound c.propagate-found.ensures.means (subst (λ (st : LoadedState). st.assumed ≡ []) (sym c.self.view_is) c.requires.none) (subst (λ (st : LoadedState). ¬ Refutes (clauses (alive_in st)) []) (sym c.self.view_is) c.requires.open) in
    c.is_unit_in.ensures ∙ is_unit_only _ _ c.args.lits.now closed c.requires.distinct (subst (λ (st : LoadedState). IsUnit (clauses (alive_in st)) c.args.lits.now) (sym c.self.view_is) u)
