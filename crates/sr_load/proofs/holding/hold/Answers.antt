use Rattle.std.proofs.Common.{◌≡◌, ◌<◌, ◌++◌, ◌∷◌, [], ◌+◌, length, arith, ap, ◌∙◌, subst}
use Rattle.sr_watch.specs.State.{held_clause}
use Rattle.sr_watch.specs.Changes.{IsAdded}
use Rattle.sr_load.proofs.Holds.{holds_from}
use Rattle.sr_load.proofs.holding.hold.Goals as goal

pub returns-clause-ok : goal.returns-clause-ok
returns-clause-ok c =
    let refs = c.args.refs.now.items in
    let some = subst (λ n. 0 < n) c.index-index.ensures.value c.index-index.ensures.low in
    let number : c.len.result + 1 ≡ length refs + 1 = omega (arith, c.len.ensures, c.reserve.ensures.len) in
    holds_from c.args.propagator.now c.make_room_for.new.propagator c.add.new.self c.attach.new.self refs c.push_reserved.new.self.items c.in-Ok.at c.args.lits.now c.in_ok-make_room_for.ensures.same
    (subst (λ n. IsAdded c.make_room_for.new.propagator c.add.new.self c.in-Ok.at (held_clause c.args.lits.now n)) number c.in-Ok.ensures.ok) c.in-Ok.ensures.cells c.attach.ensures.value c.attach.ensures.cells some
    (c.push_reserved.ensures.items ∙ ap (λ x. x ++ c.in-Ok.at ∷ []) c.reserve.ensures.items)
