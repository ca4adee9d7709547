use Rattle.std.proofs.Common.{◌≡◌, ◌≤◌, length}
use Rattle.sr_watch.specs.Trail.{first_entries}
use Rattle.sr_watch.proofs.trail.Trail.cut.Given as goal

abbrev pub invariant-loop-self : goal.invariant-loop-self
invariant-loop-self l = record {
  value : l.self ≡ first_entries l.fn.self (length l.self.lits);
  low : l.count ≤ length l.self.lits;
  high : length l.self.lits ≤ length l.fn.self.lits;
}

abbrev pub decreases-loop-self : goal.decreases-loop-self
decreases-loop-self l = length l.self.lits
