use Rattle.std.proofs.Common.{◌≡◌, ◌≤◌, ◌++◌, ◌-◌, replicate, length, vec_capacity}
use Rattle.sr_watch.proofs.trail.fill.Given as goal

abbrev pub invariant-loop-i : goal.invariant-loop-i
invariant-loop-i g l = record {
  value : l.list.items ≡ l.initial.list.items ++ replicate (l._i - length l.initial.list.items) l.item;
  room : l.size ≤ vec_capacity l.list;
}
