use Rattle.std.proofs.Common.{◌≡◌, map, take}
use Rattle.std.specs.Ordering.{nat_cmp}
use Rattle.std.specs.BTreeSet.{contains}
use Rattle.sr_model.specs.Witnesses.{from_variable, first_maps}
use Rattle.sr_wit.proofs.PartLemmas.{AreVariablesOf}
use Rattle.sr_wit.proofs.parts.first_maps.Given as goal

abbrev pub invariant-loop-from : goal.invariant-loop-from
invariant-loop-from l = (l.kept.items ≡ first_maps (map from_variable (take l.from-index l.maps))) × AreVariablesOf (contains nat_cmp l.seen) l.kept.items
