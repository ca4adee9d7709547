use Rattle.std.proofs.Common.{arith, ◌≡◌, ◌∙◌, Bool, ◌&&◌, not, false, take}
use Rattle.sr_model.specs.Assignment.{holds_number}
use Rattle.sr_check.proofs.dead.find_dead.Goals as goal

none : (b : Bool) → (b && not b) ≡ false
none b = grind arith

pub returns-clause-unmarked : goal.returns-clause-unmarked
returns-clause-unmarked c n some = c.unmark.ensures.marks n (holds_number n (take c.mark_each-reached.result c.args.ids.now)) some (c.mark_each-reached.ensures.marks n some) ∙ none (holds_number n (take c.mark_each-reached.result c.args.ids.now))
