use Rattle.std.proofs.Common.{◌≡◌, ◌∙◌, List, ℕ, false}
use Rattle.sr_model.specs.Assignment.{holds_number}
use Rattle.sr_table.proofs.Numbering.{held_push, holds_last, noted_same, not_there, noted_push}
use Rattle.sr_table.proofs.id_set.IdSet.add.Goals as goal

pub invariant_of-self-2 : goal.invariant_of-self-2
invariant_of-self-2 c =
    let ns : List ℕ = c.self.inside.ids.items in
    let out : holds_number c.args.id ns ≡ false = not_there ns c.self.inside.rounds c.self.inside.round c.args.id c.self.invariant (λ e. c.if-get-self.false (c.get.ensures ∙ e)) in
    rw c.in-Ok.ensures.items (noted_push ns c.open.new.self c.put.new.self c.self.inside.round c.args.id c.put.ensures.value out (noted_same ns c.self.inside.rounds c.open.new.self c.self.inside.round c.in_ok-open.ensures.same c.self.invariant))

pub returns-clause-kept : goal.returns-clause-kept
returns-clause-kept c = rw (c.in-Ok.ensures.items, ← c.self.view_is) (held_push c.self.inside.ids.items c.args.id)

pub returns-clause-ok : goal.returns-clause-ok
returns-clause-ok c = rw c.in-Ok.ensures.items (holds_last c.self.inside.ids.items c.args.id)
