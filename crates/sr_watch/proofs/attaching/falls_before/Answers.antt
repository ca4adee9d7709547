use Rattle.std.proofs.Common.{◌≡◌, ◌≢◌, ◌<◌, ◌≤◌, ◌∙◌, ap, arith}
use Rattle.std.proofs.lemmas.Bool.Decides.{nat_tests}
use Rattle.sr_base.specs.Literal.{complement}
use Rattle.sr_watch.specs.Trail.{place_in}
use Rattle.sr_watch.proofs.Places.{place_le, fall_none, fall_some, fall_le}
use Rattle.sr_watch.proofs.attaching.falls_before.Goals as goal

pub returns-then-one-eq0-clause-no : goal.returns-then-one-eq0-clause-no
returns-then-one-eq0-clause-no c _ =
    let one : c.place-one.result ≡ place_in c.args.trail.now.lits (complement c.args.a) = c.place-one.ensures ∙ ap (place_in c.args.trail.now.lits) c.neg.ensures.value in
    omega (arith, fall_none c.args.trail.now.lits c.args.a (let z = c.if-one-eq0.true in omega (arith, one, z)), fall_le c.args.trail.now.lits c.args.b)

pub returns-then-two-eq0-clause-yes : goal.returns-then-two-eq0-clause-yes
returns-then-two-eq0-clause-yes c _ =
    let one : c.place-one.result ≡ place_in c.args.trail.now.lits (complement c.args.a) = c.place-one.ensures ∙ ap (place_in c.args.trail.now.lits) c.neg.ensures.value in
    let two : c.place-two.result ≡ place_in c.args.trail.now.lits (complement c.args.b) = c.place-two.ensures ∙ ap (place_in c.args.trail.now.lits) c.neg-2.ensures.value in
    let some : place_in c.args.trail.now.lits (complement c.args.a) ≢ 0 = (λ e. absurd (omega (arith, e, one, c.if-one-eq0.false))) in
    let none : place_in c.args.trail.now.lits (complement c.args.b) ≡ 0 = omega (arith, two, c.if-two-eq0.true) in
    omega (arith, fall_some c.args.trail.now.lits c.args.a some, fall_none c.args.trail.now.lits c.args.b none, place_le c.args.trail.now.lits (complement c.args.a))

pub returns-clause-yes : goal.returns-clause-yes
returns-clause-yes c t =
    let one : c.place-one.result ≡ place_in c.args.trail.now.lits (complement c.args.a) = c.place-one.ensures ∙ ap (place_in c.args.trail.now.lits) c.neg.ensures.value in
    let two : c.place-two.result ≡ place_in c.args.trail.now.lits (complement c.args.b) = c.place-two.ensures ∙ ap (place_in c.args.trail.now.lits) c.neg-2.ensures.value in
    let some : place_in c.args.trail.now.lits (complement c.args.a) ≢ 0 = (λ e. absurd (omega (arith, e, one, c.if-one-eq0.false))) in
    let other : place_in c.args.trail.now.lits (complement c.args.b) ≢ 0 = (λ e. absurd (omega (arith, e, two, c.if-two-eq0.false))) in
    let lt : c.place-one.result < c.place-two.result = grind (arith, nat_tests, t) in
    omega (arith, fall_some c.args.trail.now.lits c.args.a some, fall_some c.args.trail.now.lits c.args.b other, one, two, lt)

pub returns-clause-no : goal.returns-clause-no
returns-clause-no c t =
    let one : c.place-one.result ≡ place_in c.args.trail.now.lits (complement c.args.a) = c.place-one.ensures ∙ ap (place_in c.args.trail.now.lits) c.neg.ensures.value in
    let two : c.place-two.result ≡ place_in c.args.trail.now.lits (complement c.args.b) = c.place-two.ensures ∙ ap (place_in c.args.trail.now.lits) c.neg-2.ensures.value in
    let some : place_in c.args.trail.now.lits (complement c.args.a) ≢ 0 = (λ e. absurd (omega (arith, e, one, c.if-one-eq0.false))) in
    let other : place_in c.args.trail.now.lits (complement c.args.b) ≢ 0 = (λ e. absurd (omega (arith, e, two, c.if-two-eq0.false))) in
    let le : c.place-two.result ≤ c.place-one.result = grind (arith, nat_tests, t) in
    omega (arith, fall_some c.args.trail.now.lits c.args.a some, fall_some c.args.trail.now.lits c.args.b other, one, two, le)
