-- What stands at the begin of a written line.
use Rattle.std.specs.Prelude.{ℕ, Bool, true, false, List, [], ◌∷◌, codes}
use Rattle.sr_base.specs.declared.names.Form.{Form}
use Rattle.sr_base.specs.declared.names.Form.TheVariants.{Text, Binary}

abbrev pub written_start : Form → Bool → List ℕ
written_start Text false = []
written_start Text true = codes "d "
written_start Binary false = 97 ∷ []
written_start Binary true = 100 ∷ []
