use Rattle.std.proofs.Common.{◌≤◌, ◌-◌, length}
use Rattle.sr_load.specs.Copies.{AreCopies, Begins, CoversFirst}
use Rattle.sr_load.proofs.proof.copy_cited.Given as goal

abbrev pub invariant-citations : goal.invariant-citations
invariant-citations l = record {
  copies : AreCopies l.timeline l.copies;
  covers : CoversFirst l.timeline l.copies l.copied;
  within : l.copied ≤ length l.timeline.cited;
  begins : Begins l.copies.assumed l.timeline.assumed;
}

abbrev pub decreases-citations : goal.decreases-citations
decreases-citations l = length l.timeline.cited - l.copied
