use Rattle.std.proofs.Common.{◌≡◌, ◌≢◌, ◌-◌, ◌∙◌, sym, ap, subst, ℕ, arith, length, get_or, List}
use Rattle.std.proofs.lemmas.List.{get_or_default}
use Rattle.sr_base.specs.Literal.{Literal, plus, complement, variable}
use Rattle.sr_watch.specs.Running.{IsClash}
use Rattle.sr_watch.specs.Trail.{place_in}
use Rattle.sr_watch.proofs.Clashing.{neg_within, clash_place, clash_is}
use Rattle.sr_watch.proofs.Tables.{place_le}
use Rattle.sr_watch.proofs.chains.clash_with.Goals as goal

pub place-place-requires : goal.place-place-requires
place-place-requires c =
    let is : c.index-lits-i.result ≡ get_or c.args.trail.now.lits c.args.i c.index-lits-i.result = c.index-lits-i.is ∙ ap (λ (x : List Literal). get_or x c.args.i c.index-lits-i.result) c.lits-lits.ensures.value in
    omega (arith, neg_within c.args.trail.now c.args.i c.index-lits-i.result c.lits-lits.ensures.entries c.requires.place is, ap variable c.neg.ensures.value)

pub bounds-reasons-place : goal.bounds-reasons-place
bounds-reasons-place c =
    let is : c.index-lits-i.result ≡ get_or c.args.trail.now.lits c.args.i c.index-lits-i.result = c.index-lits-i.is ∙ ap (λ (x : List Literal). get_or x c.args.i c.index-lits-i.result) c.lits-lits.ensures.value in
    let lit : get_or c.args.trail.now.lits c.args.i (plus 0) ≡ c.index-lits-i.result = get_or_default c.args.trail.now.lits c.args.i (plus 0) c.index-lits-i.result c.requires.place ∙ sym is in
    let place : c.place-place.result ≡ place_in c.args.trail.now.lits (complement (get_or c.args.trail.now.lits c.args.i (plus 0))) = c.place-place.ensures ∙ ap (place_in c.args.trail.now.lits) (c.neg.ensures.value ∙ ap complement (sym lit)) in
    omega (arith, place, place_le c.args.trail.now.lits (complement (get_or c.args.trail.now.lits c.args.i (plus 0))), ap length c.reasons-reasons.ensures.value, c.lits-lits.ensures.entries.sizes)

pub returns-then-place-eq0-clause-only : goal.returns-then-place-eq0-clause-only
returns-then-place-eq0-clause-only c =
    let is : c.index-lits-i.result ≡ get_or c.args.trail.now.lits c.args.i c.index-lits-i.result = c.index-lits-i.is ∙ ap (λ (x : List Literal). get_or x c.args.i c.index-lits-i.result) c.lits-lits.ensures.value in
    let lit : get_or c.args.trail.now.lits c.args.i (plus 0) ≡ c.index-lits-i.result = get_or_default c.args.trail.now.lits c.args.i (plus 0) c.index-lits-i.result c.requires.place ∙ sym is in
    let place : c.place-place.result ≡ place_in c.args.trail.now.lits (complement (get_or c.args.trail.now.lits c.args.i (plus 0))) = c.place-place.ensures ∙ ap (place_in c.args.trail.now.lits) (c.neg.ensures.value ∙ ap complement (sym lit)) in
    λ j w. absurd (omega (arith, place, clash_place c.args.trail.now.lits c.args.trail.now.reasons c.args.i j c.requires.news w))

pub returns-then-reasons-place-eq0-clause-only : goal.returns-then-reasons-place-eq0-clause-only
returns-then-reasons-place-eq0-clause-only c =
    let is : c.index-lits-i.result ≡ get_or c.args.trail.now.lits c.args.i c.index-lits-i.result = c.index-lits-i.is ∙ ap (λ (x : List Literal). get_or x c.args.i c.index-lits-i.result) c.lits-lits.ensures.value in
    let lit : get_or c.args.trail.now.lits c.args.i (plus 0) ≡ c.index-lits-i.result = get_or_default c.args.trail.now.lits c.args.i (plus 0) c.index-lits-i.result c.requires.place ∙ sym is in
    let place : c.place-place.result ≡ place_in c.args.trail.now.lits (complement (get_or c.args.trail.now.lits c.args.i (plus 0))) = c.place-place.ensures ∙ ap (place_in c.args.trail.now.lits) (c.neg.ensures.value ∙ ap complement (sym lit)) in
    λ j w.
    let at : c.place-place.result - 1 ≡ j = omega (arith, place, clash_place c.args.trail.now.lits c.args.trail.now.reasons c.args.i j c.requires.news w) in
    absurd (w.derived (ap (λ n. get_or c.args.trail.now.reasons n 0) (sym at) ∙ ap (λ (x : List ℕ). get_or x (c.place-place.result - 1) 0) (sym c.reasons-reasons.ensures.value) ∙ c.if-reasons-place-eq0.true))

pub returns-clause-here : goal.returns-clause-here
returns-clause-here c =
    let is : c.index-lits-i.result ≡ get_or c.args.trail.now.lits c.args.i c.index-lits-i.result = c.index-lits-i.is ∙ ap (λ (x : List Literal). get_or x c.args.i c.index-lits-i.result) c.lits-lits.ensures.value in
    let lit : get_or c.args.trail.now.lits c.args.i (plus 0) ≡ c.index-lits-i.result = get_or_default c.args.trail.now.lits c.args.i (plus 0) c.index-lits-i.result c.requires.place ∙ sym is in
    let place : c.place-place.result ≡ place_in c.args.trail.now.lits (complement (get_or c.args.trail.now.lits c.args.i (plus 0))) = c.place-place.ensures ∙ ap (place_in c.args.trail.now.lits) (c.neg.ensures.value ∙ ap complement (sym lit)) in
    let z : get_or c.args.trail.now.reasons c.args.i 0 ≡ 0 = ap (λ (x : List ℕ). get_or x c.args.i 0) (sym c.reasons-reasons.ensures.value) ∙ c.if-reasons-i-ne0.false in
    let some : place_in c.args.trail.now.lits (complement (get_or c.args.trail.now.lits c.args.i (plus 0))) ≢ 0 = λ e. c.if-place-eq0.false (place ∙ e) in
    let ne : get_or c.args.trail.now.reasons (place_in c.args.trail.now.lits (complement (get_or c.args.trail.now.lits c.args.i (plus 0))) - 1) 0 ≢ 0 =
    λ e. c.if-reasons-place-eq0.false (ap (λ (x : List ℕ). get_or x (c.place-place.result - 1) 0) c.reasons-reasons.ensures.value ∙ ap (λ n. get_or c.args.trail.now.reasons (n - 1) 0) place ∙ e) in
    λ _. subst (λ n. IsClash c.args.trail.now.lits c.args.trail.now.reasons (n - 1)) (sym place) (clash_is c.args.trail.now.lits c.args.trail.now.reasons c.args.i c.lits-lits.ensures.entries.sizes c.requires.place z some ne)

pub returns-clause-only : goal.returns-clause-only
returns-clause-only c =
    let is : c.index-lits-i.result ≡ get_or c.args.trail.now.lits c.args.i c.index-lits-i.result = c.index-lits-i.is ∙ ap (λ (x : List Literal). get_or x c.args.i c.index-lits-i.result) c.lits-lits.ensures.value in
    let lit : get_or c.args.trail.now.lits c.args.i (plus 0) ≡ c.index-lits-i.result = get_or_default c.args.trail.now.lits c.args.i (plus 0) c.index-lits-i.result c.requires.place ∙ sym is in
    let place : c.place-place.result ≡ place_in c.args.trail.now.lits (complement (get_or c.args.trail.now.lits c.args.i (plus 0))) = c.place-place.ensures ∙ ap (place_in c.args.trail.now.lits) (c.neg.ensures.value ∙ ap complement (sym lit)) in
    λ j w. omega (arith, place, clash_place c.args.trail.now.lits c.args.trail.now.reasons c.args.i j c.requires.news w)
