use Rattle.std.proofs.Common.{◌≤◌, ◌∙◌, sym, subst, refl}
use Rattle.sr_base.specs.Literal.{variable}
use Rattle.sr_watch.specs.State.{State}
use Rattle.sr_watch.proofs.Keeping.{kept_assume}
use Rattle.sr_watch.proofs.Sides.{watched_assumed}
use Rattle.sr_watch.proofs.propagator.Propagator.assume.Goals as goal

pub push-requires : goal.push-requires
push-requires c = record {
  within = subst (λ (s : State). variable c.args.l ≤ s.vars) (sym c.self.view_is) c.requires;
  not_assumed = λ z. sym c.is_assumed.ensures ∙ c.if-not-is_assumed.true;
  not_true = λ ne. absurd (ne refl);
}

pub invariant_of-self : goal.invariant_of-self
invariant_of-self c = rw c.push.ensures.value (
  kept_assume c.self.inside.trail.vars c.self.inside.memory c.self.inside.known.items c.self.inside.trail.lits c.self.inside.trail.reasons c.args.l c.self.invariant.0
      (subst (λ (s : State). variable c.args.l ≤ s.vars) (sym c.self.view_is) c.requires) (sym c.is_assumed.ensures ∙ c.if-not-is_assumed.true),
  c.self.invariant.1,
  c.self.invariant.2,
  c.self.invariant.3,
  c.self.invariant.4,
  watched_assumed c.self.inside.memory c.self.inside.known.items c.self.inside.trail c.self.inside.core c.self.inside.rest c.args.l c.self.invariant.5,
  c.self.invariant.6,
)
