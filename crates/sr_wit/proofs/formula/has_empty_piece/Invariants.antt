use Rattle.std.proofs.Common.{◌≡◌, drop}
use Rattle.sr_wit.specs.Pieces.{repeats_end}
use Rattle.sr_wit.proofs.formula.has_empty_piece.Given as goal

-- what is left answers for the whole
abbrev pub invariant-loop-end : goal.invariant-loop-end
invariant-loop-end l = repeats_end l.start (drop l.end-index l.ends) ≡ repeats_end 0 l.ends
