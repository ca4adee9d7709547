use Rattle.std.proofs.Common.{◌≡◌, ◌≤◌}
use Rattle.sr_model.specs.Substitution.{substitution}
use Rattle.sr_check.proofs.Fitting.{FitSoFar}
use Rattle.sr_check.proofs.witness.fit_groups.Given as goal

abbrev pub invariant-loop-i : goal.invariant-loop-i
invariant-loop-i l = record {
  lits : l.trail.lits ≡ l.fn.trail.lits;
  room : l.fn.trail.room ≤ l.trail.room;
  fit : FitSoFar l.trial.live.now l.fn.trail.lits (substitution l.trial.subst.now) l.trial.groups.now l.i;
}
