-- What items are written of.
use Rattle.std.specs.Prelude.{ℕ, ◌≤◌, List, [], ◌∷◌, ◌++◌, All, codes, decimal}
use Rattle.sr_base.specs.declared.names.Form.{Form}
use Rattle.sr_base.specs.declared.names.Form.TheVariants.{Text, Binary}
use Rattle.sr_model.specs.Meeting.{Group, Step}
use Rattle.sr_model.specs.Judging.{Item, stepped, dropped}

-- a number that each file can have
abbrev pub IsSmall : ℕ → Type 0
IsSmall n = n ≤ 2147483647

abbrev pub IsSmallGroup : Group → Type 0
IsSmallGroup g = IsSmall g.0 × All IsSmall g.1

abbrev pub IsSmallStep : Step → Type 0
IsSmallStep s = IsSmall s.id × All IsSmall s.prefix × All IsSmallGroup s.groups

-- an item of such numbers
abbrev pub IsSmallItem : Item → Type 0
IsSmallItem (stepped s) = IsSmallStep s
IsSmallItem (dropped id ids) = IsSmall id × All IsSmall ids

-- what stands in front of the number of a step, and in front of the numbers of a deletion
abbrev pub step_start : Form → List ℕ
step_start Text = []
step_start Binary = 97 ∷ []

abbrev pub drop_start : Form → ℕ → List ℕ
drop_start Text id = decimal id ++ codes " d "
drop_start Binary id = 100 ∷ []
