-- What a substitution keeps of the parts that it is made of.
use Rattle.std.specs.Prelude.{◌≡◌, None}
use Rattle.sr_model.specs.Substitution.{Witness}
use Rattle.sr_model.specs.Witnesses.{parts_of, twice_of, witness_by}

-- no part repeats another, maps go from variables, and no variable gets two images
pub record IsKept (w : Witness) : Type 0 where
  pub same : witness_by w.pivot w.assigned w.maps ≡ w
  pub once : twice_of (parts_of w.pivot w.assigned w.maps) ≡ None
