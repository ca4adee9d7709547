use Rattle.std.proofs.Common.{◌≡◌, ℕ, false, None, refl, ◌∙◌, sym, ap, subst}
use Rattle.sr_base.specs.Literal.{NoRepeats}
use Rattle.sr_arena.specs.Cells.{cell_at, IsHeld}
use Rattle.sr_watch.specs.declared.parts.Part.TheVariants.{Core}
use Rattle.sr_watch.specs.State.{State, held_cells, IsAttached}
use Rattle.sr_watch.specs.Changes.{IsAttachedTo}
use Rattle.sr_watch.specs.Marks.{joined}
use Rattle.sr_watch.specs.Resting.{AreWatched}
use Rattle.sr_watch.proofs.Visits.{within_cells, distinct_cells}
use Rattle.sr_watch.proofs.Attached.{free_core}
use Rattle.sr_watch.proofs.Derivations.{spares_turned}
use Rattle.sr_watch.proofs.Keeping.{cells_are, held_in}
use Rattle.sr_watch.proofs.Regrouping.{IsRegrouped, regrouped_same, regrouped_on, regrouped_parted, regrouped_moved, kept_regrouped, attached_value, parted_within, parted_once, moved_once, watched_parked, is_marked}
use Rattle.sr_watch.proofs.propagator.Propagator.make_core.Goals as goal

pub returns-then-flag-clause-value : goal.returns-then-flag-clause-value
returns-then-flag-clause-value c =
    let attached : IsAttached (joined c.self.inside.trail c.self.inside.memory) c.args.at = subst (λ (s : State). IsAttached s c.args.at) (sym c.self.view_is) c.requires in
    let held : IsHeld c.self.inside.memory c.args.at = held_in c.self.inside.trail.vars c.self.inside.memory c.self.inside.known.items c.self.inside.trail.lits c.self.inside.trail.reasons c.args.at c.self.invariant.0 attached in
    subst (λ (s : State). IsAttachedTo s s c.args.at Core) c.self.view_is
    (attached_value c.self.inside.memory c.self.inside.memory c.self.inside.trail c.args.at Core held (regrouped_same c.self.inside.memory c.args.at) (sym (is_marked c.self.inside.memory c.self.inside.trail c.args.at) ∙ attached) (sym c.flag.ensures ∙ c.if-flag.true) refl)

pub attach_to-requires-clause-within : goal.attach_to-requires-clause-within
attach_to-requires-clause-within c = parted_within c.self.inside.memory c.set_part.new.memory c.args.at None c.self.inside.trail.vars c.set_part.ensures.parted (within_cells c.self.inside.memory c.self.inside.trail c.self.invariant.0.sound)

pub attach_to-requires-clause-watched : goal.attach_to-requires-clause-watched
attach_to-requires-clause-watched c =
    let attached : IsAttached (joined c.self.inside.trail c.self.inside.memory) c.args.at = subst (λ (s : State). IsAttached s c.args.at) (sym c.self.view_is) c.requires in
    let held : IsHeld c.self.inside.memory c.args.at = held_in c.self.inside.trail.vars c.self.inside.memory c.self.inside.known.items c.self.inside.trail.lits c.self.inside.trail.reasons c.args.at c.self.invariant.0 attached in
    let flag : (cell_at c.self.inside.memory c.args.at).flagged ≡ false = sym c.flag.ensures ∙ c.if-flag.false in
    let y : AreWatched c.self.inside.memory c.self.inside.known.items c.self.inside.trail c.self.inside.core c.self.inside.rest = c.self.invariant.5 in (
      c.self.inside.known.items,
      watched_parked c.self.inside.memory c.set_part.new.memory c.self.inside.known.items c.self.inside.trail c.self.inside.core c.self.inside.rest c.forget.new.watches c.args.at held flag c.set_part.ensures.parted (record { rest = c.forget.ensures.rest; here = c.forget.ensures.here; fewer = c.forget.ensures.fewer; others = c.forget.ensures.others }) c.self.invariant.5,
      (λ e. free_core c.self.inside.memory c.self.inside.trail c.self.inside.core c.args.at flag y.core_rests, λ e. absurd cc),
    )

pub invariant_of-self : goal.invariant_of-self
invariant_of-self c =
    let attached : IsAttached (joined c.self.inside.trail c.self.inside.memory) c.args.at = subst (λ (s : State). IsAttached s c.args.at) (sym c.self.view_is) c.requires in
    let held : IsHeld c.self.inside.memory c.args.at = held_in c.self.inside.trail.vars c.self.inside.memory c.self.inside.known.items c.self.inside.trail.lits c.self.inside.trail.reasons c.args.at c.self.invariant.0 attached in
    let flag : (cell_at c.self.inside.memory c.args.at).flagged ≡ false = sym c.flag.ensures ∙ c.if-flag.false in
    let g : IsRegrouped c.self.inside.memory c.attach_to.new.memory c.args.at =
    regrouped_on c.self.inside.memory c.set_part.new.memory c.attach_to.new.memory c.args.at (regrouped_parted c.self.inside.memory c.set_part.new.memory c.args.at None c.set_part.ensures.parted) (regrouped_moved c.set_part.new.memory c.attach_to.new.memory c.args.at Core c.attach_to.ensures.moved) in
    let once : (r : ℕ) → NoRepeats (cell_at c.set_part.new.memory r).lits = parted_once c.self.inside.memory c.set_part.new.memory c.args.at None c.set_part.ensures.parted (distinct_cells c.self.inside.memory c.self.inside.trail c.self.invariant.0.sound) in (
      kept_regrouped c.self.inside.memory c.attach_to.new.memory c.self.inside.known.items c.self.inside.trail c.args.at g held (moved_once c.set_part.new.memory c.attach_to.new.memory c.args.at Core c.attach_to.ensures.moved c.attach_to.ensures.distinct once) (λ i lt q. c.attach_to.ensures.moved.marked) c.self.invariant.0,
      c.self.invariant.1 ∙ sym c.set_part.ensures.parted.most ∙ sym c.attach_to.ensures.moved.most,
      c.self.invariant.2,
      c.attach_to.ensures.moved.used ∙ c.set_part.ensures.parted.used ∙ c.self.invariant.3 ∙ sym c.set_part.ensures.parted.cells ∙ sym c.attach_to.ensures.moved.cells,
      c.self.invariant.4,
      c.attach_to.ensures.watched c.self.inside.known.items (watched_parked c.self.inside.memory c.set_part.new.memory c.self.inside.known.items c.self.inside.trail c.self.inside.core c.self.inside.rest c.forget.new.watches c.args.at held flag c.set_part.ensures.parted (record { rest = c.forget.ensures.rest; here = c.forget.ensures.here; fewer = c.forget.ensures.fewer; others = c.forget.ensures.others }) c.self.invariant.5),
      spares_turned c.self.inside.memory c.attach_to.new.memory c.self.inside.trail.vars c.self.inside.trail.vars c.self.inside.spares g.held refl c.self.invariant.6,
    )

pub returns-clause-value : goal.returns-clause-value
returns-clause-value c =
    let attached : IsAttached (joined c.self.inside.trail c.self.inside.memory) c.args.at = subst (λ (s : State). IsAttached s c.args.at) (sym c.self.view_is) c.requires in
    let held : IsHeld c.self.inside.memory c.args.at = held_in c.self.inside.trail.vars c.self.inside.memory c.self.inside.known.items c.self.inside.trail.lits c.self.inside.trail.reasons c.args.at c.self.invariant.0 attached in
    let g : IsRegrouped c.self.inside.memory c.attach_to.new.memory c.args.at =
    regrouped_on c.self.inside.memory c.set_part.new.memory c.attach_to.new.memory c.args.at (regrouped_parted c.self.inside.memory c.set_part.new.memory c.args.at None c.set_part.ensures.parted) (regrouped_moved c.set_part.new.memory c.attach_to.new.memory c.args.at Core c.attach_to.ensures.moved) in
    subst (λ (s : State). IsAttachedTo s (joined c.self.inside.trail c.attach_to.new.memory) c.args.at Core) c.self.view_is
    (attached_value c.self.inside.memory c.attach_to.new.memory c.self.inside.trail c.args.at Core held g c.attach_to.ensures.moved.marked c.attach_to.ensures.moved.flagged (c.attach_to.ensures.moved.most ∙ c.set_part.ensures.parted.most))

pub returns-clause-cells : goal.returns-clause-cells
returns-clause-cells c =
    cells_are c.self.inside.trail.vars c.attach_to.new.memory c.self.inside.trail.lits c.self.inside.trail.reasons ∙ c.attach_to.ensures.moved.cells ∙ c.set_part.ensures.parted.cells
    ∙ sym (cells_are c.self.inside.trail.vars c.self.inside.memory c.self.inside.trail.lits c.self.inside.trail.reasons) ∙ ap held_cells c.self.view_is
