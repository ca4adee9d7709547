use Rattle.std.proofs.Common.{◌≡◌, map, take}
use Rattle.sr_model.specs.Witnesses.{from_variable}
use Rattle.sr_wit.proofs.parts.all_maps.Given as goal

abbrev pub invariant-loop-from : goal.invariant-loop-from
invariant-loop-from l = l.kept.items ≡ map from_variable (take l.from-index l.maps)
