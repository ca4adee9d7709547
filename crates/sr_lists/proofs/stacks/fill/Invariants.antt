use Rattle.std.proofs.Common.{◌≡◌, ◌++◌, replicate, vec_capacity}
use Rattle.sr_lists.proofs.stacks.fill.Given as goal

abbrev pub invariant-loop-i : goal.invariant-loop-i
invariant-loop-i g l = record {
  value : l.list.items ≡ l.initial.list.items ++ replicate l._i l.item;
  room : vec_capacity l.list ≡ vec_capacity l.initial.list;
}
