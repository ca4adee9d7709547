use Rattle.std.proofs.Common.{◌≡◌, take}
use Rattle.std.specs.Prelude.{sum_by}
use Rattle.sr_placing.specs.Counting.{step_hints, counted}
use Rattle.sr_placing.proofs.counts.all_hints.Given as goal

abbrev pub invariant-loop-i : goal.invariant-loop-i
invariant-loop-i l = l.hints ≡ counted (sum_by step_hints (take l.i l.steps))
