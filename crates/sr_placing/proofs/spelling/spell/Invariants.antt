use Rattle.std.proofs.Common.{◌++◌, drop}
use Rattle.std.specs.Fmt.{decimal}
use Rattle.sr_placing.proofs.Digits.{Spells}
use Rattle.sr_placing.proofs.spelling.spell.Given as goal

abbrev pub invariant-loop-left : goal.invariant-loop-left
invariant-loop-left l = Spells l.text l.at l.left (decimal l.size ++ drop 20 l.fn.text)

abbrev pub decreases-loop-left : goal.decreases-loop-left
decreases-loop-left l = l.left
