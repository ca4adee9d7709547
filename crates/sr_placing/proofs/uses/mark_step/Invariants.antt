use Rattle.std.proofs.Common.{◌≡◌, ℕ, ◌||◌, cond, take, get_or, false}
use Rattle.sr_model.specs.Assignment.{holds_number}
use Rattle.sr_trimming.specs.Citing.{groups_cite}
use Rattle.sr_steps.specs.Adding.{bare}
use Rattle.sr_placing.proofs.uses.mark_step.Given as goal

abbrev pub invariant-loop-j : goal.invariant-loop-j
invariant-loop-j l = (n : ℕ)
    → get_or l.marks n 0 ≡ cond (holds_number n (get_or l.steps l.i (bare 0 false)).prefix || groups_cite n (take l.j (get_or l.steps l.i (bare 0 false)).groups)) l.mark (get_or l.fn.marks n 0)
