use Rattle.std.proofs.Common.{◌≡◌, false, drop}
use Rattle.sr_load.specs.Units.{is_unit_of}
use Rattle.sr_load.proofs.units.is_unit_in.Given as goal

abbrev pub invariant-loop-l : goal.invariant-loop-l
invariant-loop-l l = is_unit_of l.propagator.lits l.met (drop l.l-index l.lits) ≡ is_unit_of l.propagator.lits false l.lits
