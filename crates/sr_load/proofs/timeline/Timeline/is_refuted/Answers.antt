use Rattle.std.proofs.Common.{not, subst}
use Rattle.std.specs.Prelude.{IsTrue, ◌↔◌}
use Rattle.sr_model.specs.Refutation.{Refutes}
use Rattle.sr_model.specs.Chain.{clauses}
use Rattle.sr_load.specs.Loaded.{LoadedState, alive_in}
use Rattle.sr_load.proofs.Alike.{keeps_derived}
use Rattle.sr_load.proofs.Extending.{refuted_tells}
use Rattle.sr_load.proofs.timeline.Timeline.is_refuted.Goals as goal

pub invariant_of-self : goal.invariant_of-self
invariant_of-self c = (keeps_derived _ _ _ _ _ _ _ _ c.self.invariant.0 c.propagate-found.ensures.derives c.propagate-found.ensures.cells c.propagate-found.ensures.sound, c.self.invariant.1)

pub returns-clause-value : goal.returns-clause-value
returns-clause-value c =
    let k = keeps_derived _ _ _ _ _ _ _ _ c.self.invariant.0 c.propagate-found.ensures.derives c.propagate-found.ensures.cells c.propagate-found.ensures.sound in
    subst (λ (st : LoadedState). IsTrue (not c.is_still.result) ↔ Refutes (clauses (alive_in st)) st.assumed) c.self.view_is
    (refuted_tells _ _ _ _ _ _ _ c.propagate-found.result c.is_still.result k c.propagate-found.ensures.sound c.propagate-found.ensures.means c.is_still.ensures)
