use Rattle.std.proofs.Common.{◌≡◌, take, option_to_list}
use Rattle.sr_model.specs.Chain.{open_literals}
use Rattle.sr_check.proofs.chains.open_of.Given as goal

abbrev pub invariant-loop-l : goal.invariant-loop-l
invariant-loop-l l = option_to_list l.found ≡ open_literals l.trail.lits (take l.l-index l.lits)
