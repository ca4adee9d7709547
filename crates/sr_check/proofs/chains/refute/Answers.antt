use Rattle.sr_model.specs.Chain.{clauses}
use Rattle.sr_check.proofs.Following.{clauses_more}
use Rattle.sr_check.proofs.chains.refute.Goals as goal

pub follow-requires : goal.follow-requires
follow-requires c = clauses_more c.args.trail.now.room c.assume.new.trail.room (clauses c.args.live.now) c.in_ok-assume.ensures.front.room c.requires
