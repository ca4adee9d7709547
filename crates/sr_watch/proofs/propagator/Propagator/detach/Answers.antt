use Rattle.std.proofs.Common.{◌≡◌, ◌≢◌, ◌<◌, ℕ, None, ◌∙◌, length, subst, sym, ap, get_or}
use Rattle.sr_arena.specs.Cells.{IsHeld}
use Rattle.sr_watch.specs.State.{State, IsAttached, held_cells}
use Rattle.sr_watch.specs.Changes.{IsDetached}
use Rattle.sr_watch.specs.declared.propagator.Propagator.TheInside.{Inside}
use Rattle.sr_watch.specs.Inside.{IsKept, state_of}
use Rattle.sr_watch.specs.Marks.{AreReady, joined}
use Rattle.sr_watch.specs.Reasons.{IsReleased}
use Rattle.sr_watch.specs.Resting.{AreWatched}
use Rattle.sr_watch.proofs.Visits.{distinct_cells}
use Rattle.sr_watch.proofs.Derivations.{spares_turned}
use Rattle.sr_watch.proofs.Replacing.{released_kept, released_free, released_vars, released_value, released_from, heir_parted, reasons_sound, reasons_parted}
use Rattle.sr_watch.proofs.Keeping.{held_in, cells_are}
use Rattle.sr_watch.proofs.Regrouping.{IsRegrouped, regrouped_parted, kept_regrouped, parted_once, watched_parted}
use Rattle.sr_watch.proofs.propagator.Propagator.detach.Goals as goal

held_here : (p : Inside) (s : State) (at : ℕ) → IsKept p.trail.vars p.memory p.known.items p.trail.lits p.trail.reasons → state_of p.trail.vars p.memory p.trail.lits p.trail.reasons ≡ s → IsAttached s at → IsHeld p.memory at
held_here p s at k is h = held_in p.trail.vars p.memory p.known.items p.trail.lits p.trail.reasons at k (subst (λ (x : State). IsAttached x at) (sym is) h)

pub place_of-place-requires-clause-held : goal.place_of-place-requires-clause-held
place_of-place-requires-clause-held c = held_here c.self.inside c.args.self.now c.args.at c.self.invariant.0 c.self.view_is c.requires

pub succeed-requires-clause-place : goal.succeed-requires-clause-place
succeed-requires-clause-place c = c.place_of-place.ensures.within

pub succeed-requires-clause-reasons : goal.succeed-requires-clause-reasons
succeed-requires-clause-reasons c = reasons_parted c.self.inside.memory c.set_part.new.memory c.self.inside.trail c.args.at None c.set_part.ensures.parted (reasons_sound c.self.inside.memory c.self.inside.trail c.self.invariant.0.sound)

pub succeed-requires-clause-heir : goal.succeed-requires-clause-heir
succeed-requires-clause-heir c = heir_parted c.self.inside.memory c.set_part.new.memory c.self.inside.trail c.args.at c.place_of-place.result c.heir-heir.result c.place_of-place.ensures c.set_part.ensures.parted c.heir-heir.ensures

pub succeed-requires-clause-watched : goal.succeed-requires-clause-watched
succeed-requires-clause-watched c =
    let held : IsHeld c.self.inside.memory c.args.at = held_here c.self.inside c.args.self.now c.args.at c.self.invariant.0 c.self.view_is c.requires in
    let w : AreWatched c.set_part.new.memory c.self.inside.known.items c.self.inside.trail c.forget.new.watches c.forget-2.new.watches = watched_parted c.self.inside.memory c.set_part.new.memory c.self.inside.known.items c.self.inside.trail c.self.inside.core c.forget.new.watches c.self.inside.rest c.forget-2.new.watches c.args.at held c.set_part.ensures.parted
    (record { rest = c.forget.ensures.rest; here = c.forget.ensures.here; fewer = c.forget.ensures.fewer; others = c.forget.ensures.others })
    (record { rest = c.forget-2.ensures.rest; here = c.forget-2.ensures.here; fewer = c.forget-2.ensures.fewer; others = c.forget-2.ensures.others }) c.self.invariant.5 in
    (c.self.inside.known.items, w)

pub invariant_of-self : goal.invariant_of-self
invariant_of-self c =
    let held : IsHeld c.self.inside.memory c.args.at = held_here c.self.inside c.args.self.now c.args.at c.self.invariant.0 c.self.view_is c.requires in
    let rel : IsReleased c.self.inside.memory c.self.inside.trail c.succeed.new.trail c.args.at = released_from c.self.inside.memory c.self.inside.trail c.succeed.new.trail c.args.at c.place_of-place.result c.heir-heir.result c.place_of-place.ensures c.heir-heir.ensures c.succeed.ensures.value in
    let kept : IsKept c.succeed.new.trail.vars c.self.inside.memory c.self.inside.known.items c.succeed.new.trail.lits c.succeed.new.trail.reasons = released_kept c.self.inside.memory c.self.inside.known.items c.self.inside.trail c.succeed.new.trail c.args.at rel c.self.invariant.0 in
    let free : (i : ℕ) → i < length c.succeed.new.trail.lits → get_or c.succeed.new.trail.reasons i 0 ≢ c.args.at = released_free c.self.inside.memory c.self.inside.trail c.succeed.new.trail c.args.at c.self.invariant.0.sound rel in
    let vars : c.succeed.new.trail.vars ≡ c.self.inside.trail.vars = released_vars c.self.inside.memory c.self.inside.trail c.succeed.new.trail c.args.at rel in
    let g : IsRegrouped c.self.inside.memory c.set_part.new.memory c.args.at = regrouped_parted c.self.inside.memory c.set_part.new.memory c.args.at None c.set_part.ensures.parted in
    let w : AreWatched c.set_part.new.memory c.self.inside.known.items c.self.inside.trail c.forget.new.watches c.forget-2.new.watches = watched_parted c.self.inside.memory c.set_part.new.memory c.self.inside.known.items c.self.inside.trail c.self.inside.core c.forget.new.watches c.self.inside.rest c.forget-2.new.watches c.args.at held c.set_part.ensures.parted
    (record { rest = c.forget.ensures.rest; here = c.forget.ensures.here; fewer = c.forget.ensures.fewer; others = c.forget.ensures.others })
    (record { rest = c.forget-2.ensures.rest; here = c.forget-2.ensures.here; fewer = c.forget-2.ensures.fewer; others = c.forget-2.ensures.others }) c.self.invariant.5 in (
      kept_regrouped c.self.inside.memory c.set_part.new.memory c.self.inside.known.items c.succeed.new.trail c.args.at g held
          (parted_once c.self.inside.memory c.set_part.new.memory c.args.at None c.set_part.ensures.parted (distinct_cells c.self.inside.memory c.self.inside.trail c.self.invariant.0.sound)) (λ i lt q. absurd (free i lt q)) kept,
      c.self.invariant.1 ∙ sym c.set_part.ensures.parted.most,
      c.self.invariant.2,
      c.set_part.ensures.parted.used ∙ c.self.invariant.3 ∙ sym c.set_part.ensures.parted.cells,
      subst (λ v. AreReady c.self.inside.needed.marks v) (sym vars) c.self.invariant.4,
      c.succeed.ensures.watched c.self.inside.known.items w,
      spares_turned c.self.inside.memory c.set_part.new.memory c.self.inside.trail.vars c.succeed.new.trail.vars c.self.inside.spares g.held vars c.self.invariant.6,
    )

pub returns-clause-value : goal.returns-clause-value
returns-clause-value c =
    let rel : IsReleased c.self.inside.memory c.self.inside.trail c.succeed.new.trail c.args.at = released_from c.self.inside.memory c.self.inside.trail c.succeed.new.trail c.args.at c.place_of-place.result c.heir-heir.result c.place_of-place.ensures c.heir-heir.ensures c.succeed.ensures.value in
    let v = released_value c.self.inside.memory c.set_part.new.memory c.self.inside.trail c.succeed.new.trail c.args.at c.self.invariant.0.sound c.set_part.ensures.slots c.set_part.ensures.parted.most rel in
    subst (λ (s : State). (n : ℕ) × IsDetached s (joined c.succeed.new.trail c.set_part.new.memory) c.args.at n) c.self.view_is v

pub returns-clause-cells : goal.returns-clause-cells
returns-clause-cells c =
    cells_are c.succeed.new.trail.vars c.set_part.new.memory c.succeed.new.trail.lits c.succeed.new.trail.reasons ∙ c.set_part.ensures.parted.cells
    ∙ sym (cells_are c.self.inside.trail.vars c.self.inside.memory c.self.inside.trail.lits c.self.inside.trail.reasons) ∙ ap held_cells c.self.view_is
