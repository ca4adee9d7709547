use Rattle.std.proofs.Common.{take}
use Rattle.sr_table.specs.Numbers.{KeepsHeld, HoldsAll}
use Rattle.sr_table.proofs.id_set.IdSet.add_all.Given as goal

abbrev pub invariant-loop-id : goal.invariant-loop-id
invariant-loop-id l = record {
  kept : KeepsHeld l.fn.self l.self;
  held : HoldsAll l.self (take l.id-index l.ids);
}
