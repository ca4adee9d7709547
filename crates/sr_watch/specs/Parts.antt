-- Parts of the attached clauses.
use Rattle.std.specs.Prelude.{Bool, true, false, Option, Some, None}
use Rattle.sr_watch.specs.declared.parts.Part.{Part}
use Rattle.sr_watch.specs.declared.parts.Part.TheVariants.{Core, All}

abbrev pub is_core : Part → Bool
is_core Core = true
is_core All = false

-- whether a clause counts for a part, by the part that it was attached to
abbrev pub counts : Part → Option Part → Bool
counts p None = false
counts Core (Some q) = is_core q
counts All (Some q) = true
