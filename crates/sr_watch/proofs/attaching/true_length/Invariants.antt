use Rattle.std.proofs.Common.{◌<◌, take}
use Rattle.sr_watch.specs.Watching.{SomeTrue}
use Rattle.sr_watch.proofs.attaching.true_length.Given as goal

abbrev pub invariant-loop-l : goal.invariant-loop-l
invariant-loop-l l = 0 < l.least → SomeTrue (take l.least l.trail.lits) l.clause
