-- The names of files that contracts see.
use Rattle.std.specs.Prelude.{ℕ, List, [], ◌∷◌, Option, Some, None, if◌then◌else◌}
use Rattle.sr_desk.specs.declared.file_name.FileName.TheInside.{Inside}

abbrev pub name_of : Inside → Option (List ℕ)
name_of n = if n.is_known then Some n.bytes else None

-- of nine slots none has a name
abbrev pub no_names : List (Option (List ℕ))
no_names = None ∷ None ∷ None ∷ None ∷ None ∷ None ∷ None ∷ None ∷ None ∷ []
