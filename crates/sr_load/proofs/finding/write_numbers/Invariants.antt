use Rattle.std.proofs.Common.{◌≡◌, map, take}
use Rattle.sr_load.specs.Finding.{number_at, AreAllAttached}
use Rattle.sr_load.proofs.finding.write_numbers.Given as goal

abbrev pub invariant-loop-at : goal.invariant-loop-at
invariant-loop-at l = record {
  written : l.numbers ≡ map (number_at l.propagator) (take l.at-index l.refs);
  attached : AreAllAttached l.propagator (take l.at-index l.refs);
}
