-- Numbers as items are written of them, one after another.
use Rattle.std.specs.Prelude.{ℕ, ℤ, List, [], ◌∷◌, ◌++◌, map, flat_map, codes}
use Rattle.std.specs.Fmt.{signed_decimal}
use Rattle.sr_base.specs.Literal.{Literal, number}
use Rattle.sr_base.specs.declared.names.Form.{Form}
use Rattle.sr_base.specs.declared.names.Form.TheVariants.{Text, Binary}
use Rattle.sr_model.specs.Writing.{number_bytes}

-- in text a space stands behind a number
abbrev pub written_number : Form → ℤ → List ℕ
written_number Text x = signed_decimal x ++ 32 ∷ []
written_number Binary x = number_bytes x

abbrev pub written_numbers : Form → List ℤ → List ℕ
written_numbers form xs = flat_map (written_number form) xs

abbrev pub written_literals : Form → List Literal → List ℕ
written_literals form ls = written_numbers form (map number ls)

-- the `0` at the end of an item
abbrev pub written_end : Form → List ℕ
written_end Text = codes "0\n"
written_end Binary = 0 ∷ []
