use Rattle.std.proofs.Common.{◌≡◌, ◌∷◌, ◌++◌, map, take}
use Rattle.sr_model.specs.Substitution.{made_true, sent}
use Rattle.sr_wit.proofs.parts.written_parts.Given as goal

abbrev pub invariant-loop-l : goal.invariant-loop-l
invariant-loop-l l = l.parts.items ≡ made_true l.fn.pivot ∷ map made_true (take l.l-index l.assigned)

abbrev pub invariant-loop-from : goal.invariant-loop-from
invariant-loop-from l = l.parts.items ≡ made_true l.fn.pivot ∷ (map made_true l.fn.assigned ++ map sent (take l.from-index l.maps))
