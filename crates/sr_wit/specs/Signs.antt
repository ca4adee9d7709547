-- What the code asks of literals and of parts.
use Rattle.std.specs.Prelude.{◌||◌, Bool, true, false, not, Option, Some, None}
use Rattle.sr_base.specs.Literal.{Literal, plus, minus}
use Rattle.sr_model.specs.Witnesses.{same_image}
use Rattle.sr_model.specs.declared.images.Image.{Image}

abbrev pub is_plus : Literal → Bool
is_plus (plus v) = true
is_plus (minus v) = false

-- whether the later parts of a variable give it another image: their first image, and whether they clash themselves
abbrev pub differs : Image → Option (Image × Bool) → Bool
differs image None = false
differs image (Some (first, clashes)) = clashes || not (same_image image first)
