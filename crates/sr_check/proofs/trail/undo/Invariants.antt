use Rattle.std.proofs.Common.{◌≡◌, ◌≤◌, ◌-◌, take, length}
use Rattle.sr_check.specs.Trail.{lits_of, IsTableOf}
use Rattle.sr_check.proofs.trail.undo.Given as goal

abbrev pub invariant-loop-left : goal.invariant-loop-left
invariant-loop-left l = record {
  low : l.len ≤ l.left;
  high : l.left ≤ length l.entries;
  trail : IsTableOf l.table.items (lits_of (take l.left l.entries));
  room : length l.table.items ≡ length l.fn.table.items;
}

abbrev pub decreases-loop-left : goal.decreases-loop-left
decreases-loop-left l = l.left - l.len
