use Rattle.std.proofs.Common.{◌≡◌, ◌+◌, take, length, get_or, false}
use Rattle.std.specs.Prelude.{sum_by}
use Rattle.sr_steps.specs.Adding.{bare}
use Rattle.sr_placing.specs.Counting.{group_hints, counted}
use Rattle.sr_placing.proofs.counts.hints_at.Given as goal

abbrev pub invariant-loop-j : goal.invariant-loop-j
invariant-loop-j l = l.hints ≡ counted (length (get_or l.steps l.i (bare 0 false)).prefix + sum_by group_hints (take l.j (get_or l.steps l.i (bare 0 false)).groups))
