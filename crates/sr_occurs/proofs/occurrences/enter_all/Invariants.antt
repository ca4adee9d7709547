use Rattle.std.proofs.Common.{take}
use Rattle.sr_occurs.specs.Occurring.{numbers_under, AreLinked, KeepsNumbers, IsUnder}
use Rattle.sr_occurs.proofs.occurrences.enter_all.Given as goal

abbrev pub invariant-loop-l : goal.invariant-loop-l
invariant-loop-l l = record {
  linked : AreLinked l.heads.items l.lists.items;
  kept : KeepsNumbers (numbers_under l.fn.heads.items l.fn.lists.items) (numbers_under l.heads.items l.lists.items);
  entered : IsUnder (numbers_under l.heads.items l.lists.items) l.id (take l.l-index l.lits);
}
