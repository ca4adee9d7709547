use Rattle.std.proofs.Common.{take, length}
use Rattle.sr_wit.specs.Pieces.{AreEnds, pieces}
use Rattle.sr_placing.specs.Marks.{AreChains}
use Rattle.sr_placing.proofs.chains.NumberLists.of_chains.Given as goal

-- the lists of the heads so far
abbrev pub invariant-loop-head : goal.invariant-loop-head
invariant-loop-head l = record {
  cut : AreEnds 0 l.ends.items (length l.numbers.items);
  chains : AreChains l.links (take l.head-index l.heads) (pieces 0 l.ends.items l.numbers.items);
}
