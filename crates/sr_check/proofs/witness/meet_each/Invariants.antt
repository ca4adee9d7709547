use Rattle.std.proofs.Common.{◌≡◌, ◌≤◌, drop}
use Rattle.sr_model.specs.Substitution.{substitution}
use Rattle.sr_check.specs.Candidates.{list_meets}
use Rattle.sr_check.proofs.witness.meet_each.Given as goal

abbrev pub invariant-loop-id : goal.invariant-loop-id
invariant-loop-id l = record {
  lits : l.trail.lits ≡ l.fn.trail.lits;
  room : l.fn.trail.room ≤ l.trail.room;
  rest : list_meets l.trial.strict l.trial.live.now l.fn.trail.lits (substitution l.trial.subst.now) l.trial.groups.now l.ids ≡ list_meets l.trial.strict l.trial.live.now l.fn.trail.lits (substitution l.trial.subst.now) l.trial.groups.now (drop l.id-index l.ids);
}
