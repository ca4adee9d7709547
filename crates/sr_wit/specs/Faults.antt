-- When parts are no substitution.
use Rattle.std.specs.Prelude.{ℕ, ◌≡◌, Option, Some}
use Rattle.sr_wit.specs.declared.subst.SubstFault.{SubstFault}
use Rattle.sr_wit.specs.declared.subst.SubstFault.TheVariants.{Twice, NoMemory}

abbrev pub TellsTwice : SubstFault → Option ℕ → Type 0
TellsTwice (Twice v) first = first ≡ Some v
TellsTwice NoMemory first = Unit {0}
