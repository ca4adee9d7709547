use Rattle.std.proofs.Common.{◌≡◌, take}
use Rattle.sr_watch.specs.Changes.{AreReordered}
use Rattle.sr_load.specs.Tied.{AreAssumed}
use Rattle.sr_load.proofs.copies.assume_rest.Given as goal

abbrev pub invariant-loop-i : goal.invariant-loop-i
invariant-loop-i l = record {
  first : l.assumed ≡ take l.i l.lits;
  entries : AreAssumed l.propagator.lits l.propagator.reasons l.assumed l.marks.items;
  clauses : AreReordered l.fn.propagator.slots l.propagator.slots;
}
