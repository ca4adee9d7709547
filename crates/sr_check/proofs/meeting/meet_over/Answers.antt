use Rattle.sr_model.specs.Chain.{clauses}
use Rattle.sr_check.proofs.Following.{clauses_more}
use Rattle.sr_check.proofs.meeting.meet_over.Goals as goal

pub meet_by_witness-requires-clause-room : goal.meet_by_witness-requires-clause-room
meet_by_witness-requires-clause-room c = clauses_more c.args.scratch.now.trail.room c.refute.new.trail.room (clauses c.args.live.now) c.in_ok-refute.ensures.front.room c.requires.room
