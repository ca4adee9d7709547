use Rattle.std.proofs.Common.{◌≡◌, ℕ, cond, take, get_or}
use Rattle.sr_model.specs.Assignment.{holds_number}
use Rattle.sr_placing.proofs.uses.mark_all.Given as goal

abbrev pub invariant-loop-id : goal.invariant-loop-id
invariant-loop-id l = (n : ℕ) → get_or l.marks n 0 ≡ cond (holds_number n (take l.id-index l.ids)) l.mark (get_or l.fn.marks n 0)
