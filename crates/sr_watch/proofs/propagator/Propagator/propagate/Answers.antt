use Rattle.std.proofs.Common.{◌≡◌, false, ap, sym, subst, ◌∙◌}
use Rattle.sr_model.specs.Substitution.{has_pair}
use Rattle.sr_watch.specs.State.{State, held_cells}
use Rattle.sr_watch.specs.Changes.{Derives, AreDerivedBy}
use Rattle.sr_watch.specs.Marks.{joined, AreReady}
use Rattle.sr_watch.proofs.Answering.{self_means, still_means, conflict_means, least}
use Rattle.sr_watch.proofs.Derivations.{spares_turned}
use Rattle.sr_watch.proofs.Closes.{propagated_kept, propagated_derives, propagated_by, propagated_watched}
use Rattle.sr_watch.proofs.Keeping.{cells_are}
use Rattle.sr_watch.proofs.propagator.Propagator.propagate.Goals as goal
use Rattle.sr_watch.proofs.propagator.Propagator.propagate.Goals.{in-Some-close_part, in-None}

pub returns-in-Some-clause-means : goal.returns-in-Some-clause-means
returns-in-Some-clause-means g c = self_means c.args.part c.args.self.now c.in-Some.found c.in-Some.ensures.sound c.in-Some.ensures.finds

pub returns-in-Some-clause-least : goal.returns-in-Some-clause-least
returns-in-Some-clause-least g c = least c.args.self.now c.in-Some.ensures.sound

pub invariant_of-self : goal.invariant_of-self
invariant_of-self g c =
    let x = c.close_part.ensures.steps in (
      propagated_kept c.self.inside.memory c.close_part.new.memory c.self.inside.known.items c.self.inside.trail c.close_part.new.trail x c.close_part.ensures.sound c.self.invariant.0,
      c.self.invariant.1 ∙ sym x.most,
      c.self.invariant.2,
      x.used ∙ c.self.invariant.3 ∙ sym x.cells,
      subst (λ v. AreReady c.self.inside.needed.marks v) (sym x.grown.vars) c.self.invariant.4,
      propagated_watched c.self.inside.memory c.close_part.new.memory c.self.inside.known.items c.self.inside.trail c.close_part.new.trail c.self.inside.core c.close_part.new.core c.self.inside.rest c.close_part.new.rest x c.close_part.ensures.core_shape c.close_part.ensures.rest_shape c.close_part.ensures.core_rests c.close_part.ensures.rest_rests c.self.invariant.5,
      spares_turned c.self.inside.memory c.close_part.new.memory c.self.inside.trail.vars c.close_part.new.trail.vars c.self.inside.spares (λ r. (x.each r).held) x.grown.vars c.self.invariant.6,
    )

pub returns-clause-derives : goal.returns-clause-derives
returns-clause-derives g c = subst (λ (s : State). Derives s (joined c.close_part.new.trail c.close_part.new.memory)) c.self.view_is (propagated_derives c.self.inside.memory c.close_part.new.memory c.self.inside.trail c.close_part.new.trail c.close_part.ensures.steps)

pub returns-clause-means : goal.returns-clause-means
returns-clause-means g c =
    let now : State = joined c.close_part.new.trail c.close_part.new.memory in
    let np : has_pair c.self.inside.trail.lits ≡ false = subst (λ (s : State). has_pair s.lits ≡ false) (sym c.self.view_is) c.in_default.ensures.finds in
    elim c.match-close_part.branch [
      | in-Some-close_part w ↦ rw w.result-is (conflict_means c.args.part now w.in-Some-close_part.at c.close_part.ensures.sound w.in-Some-close_part.ensures.found)
      | in-None w ↦ rw w.result-is (still_means c.args.part now (c.close_part.ensures.steps.grown.no_pair np) w.in-None.ensures.found)
    ]

pub returns-clause-cells : goal.returns-clause-cells
returns-clause-cells g c =
    cells_are c.close_part.new.trail.vars c.close_part.new.memory c.close_part.new.trail.lits c.close_part.new.trail.reasons ∙ c.close_part.ensures.steps.cells
    ∙ sym (cells_are c.self.inside.trail.vars c.self.inside.memory c.self.inside.trail.lits c.self.inside.trail.reasons) ∙ ap held_cells c.self.view_is

pub returns-clause-least : goal.returns-clause-least
returns-clause-least g c = least (joined c.close_part.new.trail c.close_part.new.memory) c.close_part.ensures.sound

pub returns-clause-by_part : goal.returns-clause-by_part
returns-clause-by_part g c = subst (λ (s : State). AreDerivedBy c.args.part s (joined c.close_part.new.trail c.close_part.new.memory)) c.self.view_is
    (propagated_by c.args.part c.self.inside.memory c.close_part.new.memory c.self.inside.trail c.close_part.new.trail c.self.invariant.0.sound.sizes c.close_part.ensures.sound c.close_part.ensures.steps c.close_part.ensures.reasons)
