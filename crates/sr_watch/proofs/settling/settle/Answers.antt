use Rattle.std.proofs.Common.{◌≡◌, ◌∙◌, sym, ap, subst, arith}
use Rattle.sr_arena.specs.Cells.{cell_at}
use Rattle.sr_watch.specs.State.{IsSound}
use Rattle.sr_watch.specs.Marks.{joined}
use Rattle.sr_watch.specs.Trail.{Entries, with_entry}
use Rattle.sr_watch.specs.Scanning.{IsSettled, IsSingle}
use Rattle.sr_watch.specs.Watching.{SomeTrue}
use Rattle.sr_watch.specs.Walking.{IsGrown}
use Rattle.sr_watch.proofs.Visits.{grown_push, sound_push}
use Rattle.sr_watch.proofs.Units.{settled_stuck, next_single, forced_true}
use Rattle.sr_watch.proofs.settling.settle.Goals as goal

pub returns-in-Settled-clause-settled : goal.returns-in-Settled-clause-settled
returns-in-Settled-clause-settled g c _ s = settled_stuck c.args.trail.now.lits (cell_at c.args.memory.now c.args.at).lits (subst (IsSettled c.args.trail.now.lits) c.lits.ensures.value c.in-Settled.ensures) s

pub returns-in-Single-clause-grown : goal.returns-in-Single-clause-grown
returns-in-Single-clause-grown g c =
    let s : IsSingle c.args.trail.now.lits (cell_at c.args.memory.now c.args.at).lits c.in-Single.l = subst (λ x. IsSingle c.args.trail.now.lits x c.in-Single.l) c.lits.ensures.value c.in-Single.ensures in
    let n = next_single c.args.memory.now c.args.trail.now c.args.at c.in-Single.l c.requires.attached (omega (arith, c.index.ensures.low, c.index.ensures.value)) s in
    let e : c.push.new.self ≡ with_entry c.args.trail.now c.in-Single.l c.args.at = c.push.ensures.value ∙ ap (with_entry c.args.trail.now c.in-Single.l) c.index.ensures.value in
    subst (IsGrown c.args.trail.now) (sym e) (grown_push c.args.memory.now c.args.trail.now c.in-Single.l c.args.at c.requires.sound n)

pub returns-in-Single-clause-sound : goal.returns-in-Single-clause-sound
returns-in-Single-clause-sound g c =
    let s : IsSingle c.args.trail.now.lits (cell_at c.args.memory.now c.args.at).lits c.in-Single.l = subst (λ x. IsSingle c.args.trail.now.lits x c.in-Single.l) c.lits.ensures.value c.in-Single.ensures in
    let n = next_single c.args.memory.now c.args.trail.now c.args.at c.in-Single.l c.requires.attached (omega (arith, c.index.ensures.low, c.index.ensures.value)) s in
    let e : c.push.new.self ≡ with_entry c.args.trail.now c.in-Single.l c.args.at = c.push.ensures.value ∙ ap (with_entry c.args.trail.now c.in-Single.l) c.index.ensures.value in
    subst (λ h. IsSound (joined h c.args.memory.now)) (sym e) (sound_push c.args.memory.now c.args.trail.now c.in-Single.l c.args.at c.requires.sound n)

pub returns-in-Single-clause-settled : goal.returns-in-Single-clause-settled
returns-in-Single-clause-settled g c _ _ =
    let s : IsSingle c.args.trail.now.lits (cell_at c.args.memory.now c.args.at).lits c.in-Single.l = subst (λ x. IsSingle c.args.trail.now.lits x c.in-Single.l) c.lits.ensures.value c.in-Single.ensures in
    let e : c.push.new.self ≡ with_entry c.args.trail.now c.in-Single.l c.args.at = c.push.ensures.value ∙ ap (with_entry c.args.trail.now c.in-Single.l) c.index.ensures.value in
    subst (λ (h : Entries). SomeTrue h.lits (cell_at c.args.memory.now c.args.at).lits) (sym e) (forced_true (cell_at c.args.memory.now c.args.at).lits c.args.trail.now.lits c.in-Single.l s.forced.of_clause)
