use Rattle.std.proofs.Common.{ℕ, ◌≡◌, ◌∙◌, refl, sym, ap, subst}
use Rattle.sr_arena.specs.Cells.{IsHeld}
use Rattle.sr_watch.specs.State.{State, held_cells, IsHeld as IsHeldIn}
use Rattle.sr_watch.specs.Changes.{IsAttachedTo}
use Rattle.sr_watch.specs.Marks.{joined}
use Rattle.sr_watch.specs.Resting.{AreWatched}
use Rattle.sr_watch.proofs.Visits.{within_cells}
use Rattle.sr_watch.specs.declared.propagator.Propagator.TheInside.{Inside}
use Rattle.sr_watch.specs.Marks.{AreReady}
use Rattle.sr_watch.specs.Inside.{IsKept, state_of}
use Rattle.sr_watch.specs.Reasons.{AreSpares}
use Rattle.sr_watch.proofs.Derivations.{spares_turned}
use Rattle.sr_watch.proofs.Replacing.{taken_kept, taken_watched, taken_vars, taken_value}
use Rattle.sr_watch.proofs.Keeping.{cells_are, held_back}
use Rattle.sr_watch.proofs.Regrouping.{IsRegrouped, regrouped_attached, kept_attached, attached_here, attached_value, cleared_within}
use Rattle.sr_watch.proofs.propagator.Propagator.attach.Goals as goal

pub attach_to-requires-clause-within : goal.attach_to-requires-clause-within
attach_to-requires-clause-within c = cleared_within c.self.inside.memory c.freshen.new.memory c.self.inside.trail.vars c.freshen.ensures.cleared (within_cells c.self.inside.memory c.self.inside.trail c.self.invariant.0.sound)

-- the clause is held, and attached now
held_here : (p : Inside) (s : State) (at : ℕ) → state_of p.trail.vars p.memory p.trail.lits p.trail.reasons ≡ s → IsHeldIn s at → IsHeld p.memory at
held_here p s at is h = held_back p.trail.vars p.memory p.trail.lits p.trail.reasons at (subst (λ (x : State). IsHeldIn x at) (sym is) h)

pub take_over-requires-clause-held : goal.take_over-requires-clause-held
take_over-requires-clause-held c =
    (regrouped_attached c.self.inside.memory c.freshen.new.memory c.attach_to.new.memory c.args.at c.args.part c.freshen.ensures.cleared c.attach_to.ensures.moved).held c.args.at ∙ held_here c.self.inside c.args.self.now c.args.at c.self.view_is c.requires.held

pub take_over-requires-clause-sound : goal.take_over-requires-clause-sound
take_over-requires-clause-sound c =
    (kept_attached c.self.inside.memory c.freshen.new.memory c.attach_to.new.memory c.self.inside.known.items c.self.inside.trail c.args.at c.args.part (held_here c.self.inside c.args.self.now c.args.at c.self.view_is c.requires.held) c.freshen.ensures.cleared c.attach_to.ensures.moved c.attach_to.ensures.distinct c.self.invariant.0).sound

pub take_over-requires-clause-attached : goal.take_over-requires-clause-attached
take_over-requires-clause-attached c = attached_here c.attach_to.new.memory c.self.inside.trail c.args.at c.attach_to.ensures.moved.marked

pub take_over-requires-clause-spares : goal.take_over-requires-clause-spares
take_over-requires-clause-spares c =
    let g = regrouped_attached c.self.inside.memory c.freshen.new.memory c.attach_to.new.memory c.args.at c.args.part c.freshen.ensures.cleared c.attach_to.ensures.moved in
    spares_turned c.self.inside.memory c.attach_to.new.memory c.self.inside.trail.vars c.self.inside.trail.vars c.self.inside.spares g.held refl c.self.invariant.6

pub invariant_of-self : goal.invariant_of-self
invariant_of-self c =
    let held : IsHeld c.self.inside.memory c.args.at = held_here c.self.inside c.args.self.now c.args.at c.self.view_is c.requires.held in
    let kept : IsKept c.self.inside.trail.vars c.attach_to.new.memory c.self.inside.known.items c.self.inside.trail.lits c.self.inside.trail.reasons =
    kept_attached c.self.inside.memory c.freshen.new.memory c.attach_to.new.memory c.self.inside.known.items c.self.inside.trail c.args.at c.args.part held c.freshen.ensures.cleared c.attach_to.ensures.moved c.attach_to.ensures.distinct c.self.invariant.0 in
    let vars : c.take_over.new.trail.vars ≡ c.self.inside.trail.vars = taken_vars c.attach_to.new.memory c.self.inside.trail c.take_over.new.trail c.args.at c.take_over.ensures.taken in (
      taken_kept c.attach_to.new.memory c.self.inside.known.items c.self.inside.trail c.take_over.new.trail c.args.at c.take_over.ensures.taken kept,
      c.self.invariant.1 ∙ sym c.freshen.ensures.cleared.most ∙ sym c.attach_to.ensures.moved.most,
      c.self.invariant.2,
      c.attach_to.ensures.moved.used ∙ c.freshen.ensures.cleared.used ∙ c.self.invariant.3 ∙ sym c.freshen.ensures.cleared.cells ∙ sym c.attach_to.ensures.moved.cells,
      subst (λ v. AreReady c.self.inside.needed.marks v) (sym vars) c.self.invariant.4,
      taken_watched c.attach_to.new.memory c.self.inside.known.items c.self.inside.trail c.take_over.new.trail c.attach_to.new.core c.attach_to.new.rest c.args.at c.take_over.ensures.taken c.attach_to.ensures.once
          (c.attach_to.ensures.watched c.self.inside.known.items (subst (λ ks. AreWatched c.freshen.new.memory ks c.self.inside.trail c.freshen.new.core c.freshen.new.rest) c.deref.ensures.value (c.freshen.ensures.watched c.self.inside.trail
          (subst (λ ks. AreWatched c.self.inside.memory ks c.self.inside.trail c.self.inside.core c.self.inside.rest) (sym c.deref.ensures.value) c.self.invariant.5)))),
      subst (λ n. AreSpares c.attach_to.new.memory n c.take_over.new.spares) (sym vars) c.take_over.ensures.spares,
    )

pub returns-clause-value : goal.returns-clause-value
returns-clause-value c =
    let held : IsHeld c.self.inside.memory c.args.at = held_here c.self.inside c.args.self.now c.args.at c.self.view_is c.requires.held in
    let g : IsRegrouped c.self.inside.memory c.attach_to.new.memory c.args.at = regrouped_attached c.self.inside.memory c.freshen.new.memory c.attach_to.new.memory c.args.at c.args.part c.freshen.ensures.cleared c.attach_to.ensures.moved in
    let a : IsAttachedTo (joined c.self.inside.trail c.self.inside.memory) (joined c.self.inside.trail c.attach_to.new.memory) c.args.at c.args.part =
    attached_value c.self.inside.memory c.attach_to.new.memory c.self.inside.trail c.args.at c.args.part held g c.attach_to.ensures.moved.marked c.attach_to.ensures.moved.flagged (c.attach_to.ensures.moved.most ∙ c.freshen.ensures.cleared.most) in
    subst (λ (s : State). IsAttachedTo s (joined c.take_over.new.trail c.attach_to.new.memory) c.args.at c.args.part) c.self.view_is
    (taken_value c.self.inside.memory c.attach_to.new.memory c.self.inside.trail c.take_over.new.trail c.args.at c.args.part c.self.invariant.0.sound g a c.take_over.ensures.taken)

pub returns-clause-cells : goal.returns-clause-cells
returns-clause-cells c =
    cells_are c.take_over.new.trail.vars c.attach_to.new.memory c.take_over.new.trail.lits c.take_over.new.trail.reasons ∙ c.attach_to.ensures.moved.cells ∙ c.freshen.ensures.cleared.cells
    ∙ sym (cells_are c.self.inside.trail.vars c.self.inside.memory c.self.inside.trail.lits c.self.inside.trail.reasons) ∙ ap held_cells c.self.view_is
