use Rattle.sr_model.specs.Chain.{clauses}
use Rattle.sr_check.proofs.Following.{clauses_more}
use Rattle.sr_check.proofs.witness.meet_witness.Goals as goal

pub meet_all-requires-clause-room : goal.meet_all-requires-clause-room
meet_all-requires-clause-room c = clauses_more c.args.trail.now.room c.fit_groups.new.trail.room (clauses c.args.trial.now.live.now) c.fit_groups.ensures.room c.requires.room
