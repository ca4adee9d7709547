use Rattle.std.proofs.Common.{◌≡◌, ℕ, take, get_or}
use Rattle.sr_placing.specs.Uses.{last_use}
use Rattle.sr_placing.proofs.uses.mark_steps.Given as goal

abbrev pub invariant-loop-i : goal.invariant-loop-i
invariant-loop-i l = (n : ℕ) → get_or l.marks n 0 ≡ last_use 0 n (take l.i l.steps)
