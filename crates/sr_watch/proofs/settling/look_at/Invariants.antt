use Rattle.std.proofs.Common.{◌≡◌, take, option_to_list}
use Rattle.sr_model.specs.Chain.{open_literals}
use Rattle.sr_watch.proofs.settling.look_at.Given as goal

abbrev pub invariant-loop-l : goal.invariant-loop-l
invariant-loop-l l = option_to_list l.found ≡ open_literals l.trail.lits (take l.l-index l.clause)
