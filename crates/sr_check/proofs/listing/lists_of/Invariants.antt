use Rattle.std.proofs.Common.{◌≡◌, true, ◌++◌, length}
use Rattle.sr_model.specs.Chain.{Numbered}
use Rattle.sr_occurs.specs.Occurring.{under, AreUnder}
use Rattle.sr_check.proofs.listing.lists_of.Given as goal

abbrev pub invariant-loop-id : goal.invariant-loop-id
invariant-loop-id l = record {
  before : Numbered;
  split : l.live ≡ before ++ l.walk;
  built : l.lists.built ≡ true;
  entered : AreUnder (under l.lists) before;
}

abbrev pub decreases-loop-id : goal.decreases-loop-id
decreases-loop-id l = length l.walk
