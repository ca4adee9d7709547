use Rattle.std.proofs.Common.{◌≡◌, ◌||◌, ◌&&◌, ℕ, not, take}
use Rattle.sr_model.specs.Assignment.{holds_number}
use Rattle.sr_back.proofs.groups.put_new.Given as goal

abbrev pub invariant-loop-id : goal.invariant-loop-id
invariant-loop-id g l = (n : ℕ) → holds_number n l.queue ≡ (holds_number n l.fn.queue || (holds_number n (take l.id-index l.ids) && not (holds_number n (g.L.Loaded.state l.loaded).cited)))
