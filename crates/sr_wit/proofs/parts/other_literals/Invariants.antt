use Rattle.std.proofs.Common.{◌≡◌, not, take}
use Rattle.std.specs.Prelude.{filter}
use Rattle.sr_base.specs.Literal.{same}
use Rattle.sr_wit.proofs.parts.other_literals.Given as goal

abbrev pub invariant-loop-l : goal.invariant-loop-l
invariant-loop-l l = l.kept.items ≡ filter (λ k. not (same l.pivot k)) (take l.l-index l.l-items)
