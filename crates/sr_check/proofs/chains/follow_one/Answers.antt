use Rattle.sr_model.specs.Chain.{open_literals}
use Rattle.sr_check.proofs.Following.{nothing_open, one_open, more_open}
use Rattle.sr_check.proofs.chains.follow_one.Goals as goal

pub returns-in-Nothing : goal.returns-in-Nothing
returns-in-Nothing c = rw c.in-Some.is (nothing_open c.args.number (open_literals c.args.trail.now.lits c.in-Some.lits.now) c.in-Nothing.ensures)

pub returns-in-One : goal.returns-in-One
returns-in-One c = rw c.in-Some.is (one_open c.args.number c.in-One.l (open_literals c.args.trail.now.lits c.in-Some.lits.now) c.in-One.ensures)

pub returns-in-More : goal.returns-in-More
returns-in-More c = rw c.in-Some.is (more_open c.args.number (open_literals c.args.trail.now.lits c.in-Some.lits.now) c.in-More.ensures)
