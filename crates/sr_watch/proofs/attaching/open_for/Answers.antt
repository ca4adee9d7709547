use Rattle.std.proofs.Common.{◌≡◌, ◌-◌, ◌∙◌, ap, arith, length}
use Rattle.sr_base.specs.Literal.{complement}
use Rattle.sr_watch.specs.Trail.{place_in}
use Rattle.sr_watch.proofs.Places.{place_after, place_none, place_there}
use Rattle.sr_watch.proofs.attaching.open_for.Goals as goal

pub returns-then-place-eq0-clause-open_here : goal.returns-then-place-eq0-clause-open_here
returns-then-place-eq0-clause-open_here c =
    let is : c.place-place.result ≡ place_in c.args.trail.now.lits (complement c.args.l) = c.place-place.ensures ∙ ap (place_in c.args.trail.now.lits) c.neg.ensures.value in
    place_none c.args.trail.now.lits (complement c.args.l) (length c.lits.result.now) (let z = c.if-place-eq0.true in omega (arith, is, z))

pub returns-clause-open_here : goal.returns-clause-open_here
returns-clause-open_here c =
    let is : c.place-place.result ≡ place_in c.args.trail.now.lits (complement c.args.l) = c.place-place.ensures ∙ ap (place_in c.args.trail.now.lits) c.neg.ensures.value in
    place_after c.args.trail.now.lits (complement c.args.l) (c.place-place.result - 1) (let z = c.if-place-eq0.false in omega (arith, is, z))

pub returns-clause-most : goal.returns-clause-most
returns-clause-most c _ =
    let is : c.place-place.result ≡ place_in c.args.trail.now.lits (complement c.args.l) = c.place-place.ensures ∙ ap (place_in c.args.trail.now.lits) c.neg.ensures.value in
    place_there c.args.trail.now.lits (complement c.args.l) (let z = c.if-place-eq0.false in omega (arith, is, z))
