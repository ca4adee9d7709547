use Rattle.std.proofs.Common.{◌<◌, sym, subst, ap, ◌∙◌, length, arith}
use Rattle.sr_load.specs.Loaded.{LoadedState}
use Rattle.sr_load.specs.Copies.{Begins, Copied}
use Rattle.sr_load.proofs.Asking.{took_none, back_none, back_some, next_none, next_back, next_some, copies_back_none, copies_back_some, covers_back, covers_kept, copy_attached, dropped_refs, dropped_assumed}
use Rattle.sr_load.proofs.Copying.{begins_none}
use Rattle.sr_load.proofs.proof.LoadedProofLoaded.back.Goals as goal

pub invariant_of-self : goal.invariant_of-self
invariant_of-self c =
    let old = c.self.inside.timeline in let new = c.back.new.self in
    let t = took_none old new c.back.result c.in_default.not-Some c.back.ensures in
    let b = back_none old new t in (
      copies_back_none old new c.self.inside.copies t c.cited-cited.ensures.alive c.cited-cited-in_default.ensures.alive c.self.invariant.0,
      covers_back old new c.self.inside.copies c.self.inside.copied b.0 c.cited-cited.ensures.alive (omega (arith, next_none old new t)) c.self.invariant.1,
      omega (arith, c.self.invariant.2, ap length b.0),
      subst (Begins c.self.inside.copies.assumed) (sym (ap (λ (x : LoadedState). x.assumed) t.same)) c.self.invariant.3,
    )

pub detach-requires-clause-none : goal.detach-requires-clause-none
detach-requires-clause-none c = begins_none c.self.inside.copies.assumed c.self.inside.timeline.assumed (ap (λ (x : LoadedState). x.assumed) c.self.view_is ∙ c.requires) c.self.invariant.3

pub detach-requires-clause-low : goal.detach-requires-clause-low
detach-requires-clause-low c = omega (arith, c.in-Some.ensures.number, next_some c.back.new.self)

pub detach-requires-clause-attached : goal.detach-requires-clause-attached
detach-requires-clause-attached c =
    copy_attached c.self.inside.timeline c.back.new.self c.self.inside.copies c.in-Some.id (omega (arith, c.in-Some.ensures.number, next_some c.back.new.self)) c.in-Some.ensures c.cited-cited.ensures.alive c.self.invariant.0

pub invariant_of-self-2 : goal.invariant_of-self-2
invariant_of-self-2 c =
    let old = c.self.inside.timeline in let new = c.back.new.self in
    let low : 0 < c.in-Some.id = omega (arith, c.in-Some.ensures.number, next_some c.back.new.self) in
    let b = back_some old new c.in-Some.id c.in-Some.ensures in
    let x = next_back old new c.in-Some.id c.in-Some.ensures in (
      copies_back_some old new c.self.inside.copies c.detach.new.self c.in-Some.id low c.in-Some.ensures c.cited-cited.ensures.alive c.cited-cited-2.ensures.alive c.cited-cited.ensures.known c.self.invariant.0 c.detach.ensures,
      covers_kept new c.self.inside.copies c.detach.new.self c.self.inside.copied (ap (λ (d : Copied). d.refs) c.detach.ensures ∙ dropped_refs c.self.inside.copies c.in-Some.id)
          (covers_back old new c.self.inside.copies c.self.inside.copied b.0 c.cited-cited.ensures.alive (omega (arith, x.0, x.1)) c.self.invariant.1),
      omega (arith, c.self.invariant.2, ap length b.0),
      subst (λ xs. Begins xs new.assumed) (sym (ap (λ (d : Copied). d.assumed) c.detach.ensures ∙ dropped_assumed c.self.inside.copies c.in-Some.id))
          (subst (Begins c.self.inside.copies.assumed) (sym (ap (λ (x : LoadedState). x.assumed) c.in-Some.ensures.same)) c.self.invariant.3),
    )
