use Rattle.std.proofs.Common.{◌≤◌, length, subst, sym}
use Rattle.sr_watch.specs.State.{State}
use Rattle.sr_watch.proofs.Keeping.{kept_cut}
use Rattle.sr_watch.proofs.Replacing.{reasons_sound}
use Rattle.sr_watch.proofs.propagator.Propagator.undo_to.Goals as goal

pub cut-requires-clause-reasons : goal.cut-requires-clause-reasons
cut-requires-clause-reasons c = reasons_sound c.self.inside.memory c.self.inside.trail c.self.invariant.0.sound

pub invariant_of-self : goal.invariant_of-self
invariant_of-self c = (
  rw c.cut.ensures.value (kept_cut c.self.inside.trail.vars c.self.inside.memory c.self.inside.known.items c.self.inside.trail.lits c.self.inside.trail.reasons c.args.mark (subst (λ (s : State). c.args.mark ≤ length s.lits) (sym c.self.view_is) c.requires) c.self.invariant.0),
  c.self.invariant.1,
  c.self.invariant.2,
  c.self.invariant.3,
  rw c.cut.ensures.value c.self.invariant.4,
  c.cut.ensures.watched c.self.inside.known.items c.self.invariant.5,
  rw c.cut.ensures.value c.self.invariant.6,
)
