use Rattle.std.proofs.Common.{◌≡◌, ◌<◌, ◌≤◌, ℕ, true, get_or}
use Rattle.sr_base.specs.Literal.{plus, complement, has}
use Rattle.sr_watch.proofs.examining.find_from.Given as goal

abbrev pub invariant-loop-place : goal.invariant-loop-place
invariant-loop-place l = (j : ℕ) → l.from ≤ j → j < l.place → has (complement (get_or l.clause j (plus 0))) l.trail.lits ≡ true
