use Rattle.std.proofs.Common.{◌≡◌, ℕ, true, take}
use Rattle.sr_model.specs.Assignment.{holds_number}
use Rattle.sr_load.proofs.timeline.Timeline.are_cited.Given as goal

abbrev pub invariant-loop-id : goal.invariant-loop-id
invariant-loop-id l = (n : ℕ) → holds_number n (take l.id-index l.ids) ≡ true → holds_number n l.self.cited ≡ true
