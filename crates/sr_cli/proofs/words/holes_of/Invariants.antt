use Rattle.std.proofs.Common.{◌≡◌, ◌≤◌, drop}
use Rattle.sr_holes.specs.declared.literals.TheConstants.{MOST_HOLES}
use Rattle.sr_cli.specs.Words.{holes_of}
use Rattle.sr_cli.proofs.HolesRead.{holes_after}
use Rattle.sr_cli.proofs.words.holes_of.Given as goal

abbrev pub invariant-loop-digit : goal.invariant-loop-digit
invariant-loop-digit l = record {
  few : l.holes ≤ MOST_HOLES;
  left : holes_of l.digits ≡ holes_after l.holes (drop l.digit-index l.digit-items);
}
