use Rattle.sr_model.specs.Chain.{clauses}
use Rattle.sr_check.proofs.Following.{clauses_more}
use Rattle.sr_check.proofs.witness.meet_each.Goals as goal

pub meet_number-requires-clause-room : goal.meet_number-requires-clause-room
meet_number-requires-clause-room c = clauses_more c.args.trail.now.room c.loop-id.trail.room (clauses c.args.trial.now.live.now) c.loop-id.invariant.room c.requires.room
