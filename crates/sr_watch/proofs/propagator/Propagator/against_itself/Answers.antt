use Rattle.std.proofs.Common.{◌≡◌, ◌-◌, ◌∙◌, sym, ap, subst, arith, length, get_or, true, false, List, ℕ}
use Rattle.sr_base.specs.Literal.{Literal, complement, variable, has}
use Rattle.sr_base.proofs.Literals.{complement_twice}
use Rattle.sr_watch.specs.State.{State, assumed, reason_at}
use Rattle.sr_watch.specs.Inside.{state_of}
use Rattle.sr_watch.specs.Trail.{place_in}
use Rattle.sr_watch.specs.Scanning.{IsDerivedPair}
use Rattle.sr_watch.proofs.Clashing.{clash_pair, place_at, place_derived}
use Rattle.sr_watch.proofs.Marking.{variable_complement}
use Rattle.sr_watch.proofs.propagator.Propagator.against_itself.Goals as goal

pub is_assumed-requires : goal.is_assumed-requires
is_assumed-requires c =
    let is : c.index-lits-clash.result ≡ get_or c.self.inside.trail.lits (c.clash-clash.result - 1) c.index-lits-clash.result = c.index-lits-clash.is ∙ ap (λ (x : List Literal). get_or x (c.clash-clash.result - 1) c.index-lits-clash.result) c.lits.ensures.value in
    let w = clash_pair (state_of c.self.inside.trail.vars c.self.inside.memory c.self.inside.trail.lits c.self.inside.trail.reasons) c.clash-clash.result c.index-lits-clash.result c.self.invariant.0.sound c.clash-clash.ensures c.if-clash-eq0.false is in
    omega (arith, c.self.invariant.0.sound.within c.index-lits-clash.result w.3, variable_complement c.index-lits-clash.result, ap variable c.neg.ensures.value)

pub returns-then-is_assumed-clause-finds : goal.returns-then-is_assumed-clause-finds
returns-then-is_assumed-clause-finds c =
    let is : c.index-lits-clash.result ≡ get_or c.self.inside.trail.lits (c.clash-clash.result - 1) c.index-lits-clash.result = c.index-lits-clash.is ∙ ap (λ (x : List Literal). get_or x (c.clash-clash.result - 1) c.index-lits-clash.result) c.lits.ensures.value in
    let w = clash_pair (state_of c.self.inside.trail.vars c.self.inside.memory c.self.inside.trail.lits c.self.inside.trail.reasons) c.clash-clash.result c.index-lits-clash.result c.self.invariant.0.sound c.clash-clash.ensures c.if-clash-eq0.false is in
    let other : has (complement c.index-lits-clash.result) (assumed (state_of c.self.inside.trail.vars c.self.inside.memory c.self.inside.trail.lits c.self.inside.trail.reasons)) ≡ true = ap (λ k. has k (assumed (state_of c.self.inside.trail.vars c.self.inside.memory c.self.inside.trail.lits c.self.inside.trail.reasons))) (sym c.neg.ensures.value) ∙ sym c.is_assumed.ensures ∙ c.if-is_assumed.true in
    subst (λ (s : State). (has c.index-lits-clash.result (assumed s) ≡ true) × (has (complement c.index-lits-clash.result) (assumed s) ≡ true)) c.self.view_is (w.1, other)

pub place-place-requires : goal.place-place-requires
place-place-requires c =
    let is : c.index-lits-clash.result ≡ get_or c.self.inside.trail.lits (c.clash-clash.result - 1) c.index-lits-clash.result = c.index-lits-clash.is ∙ ap (λ (x : List Literal). get_or x (c.clash-clash.result - 1) c.index-lits-clash.result) c.lits.ensures.value in
    let w = clash_pair (state_of c.self.inside.trail.vars c.self.inside.memory c.self.inside.trail.lits c.self.inside.trail.reasons) c.clash-clash.result c.index-lits-clash.result c.self.invariant.0.sound c.clash-clash.ensures c.if-clash-eq0.false is in
    omega (arith, c.self.invariant.0.sound.within c.index-lits-clash.result w.3, variable_complement c.index-lits-clash.result, ap variable c.neg-2.ensures.value)

pub overflow_sub-place : goal.overflow_sub-place
overflow_sub-place c =
    let is : c.index-lits-clash.result ≡ get_or c.self.inside.trail.lits (c.clash-clash.result - 1) c.index-lits-clash.result = c.index-lits-clash.is ∙ ap (λ (x : List Literal). get_or x (c.clash-clash.result - 1) c.index-lits-clash.result) c.lits.ensures.value in
    let w = clash_pair (state_of c.self.inside.trail.vars c.self.inside.memory c.self.inside.trail.lits c.self.inside.trail.reasons) c.clash-clash.result c.index-lits-clash.result c.self.invariant.0.sound c.clash-clash.ensures c.if-clash-eq0.false is in
    let p = place_at c.self.inside.trail.lits (complement c.index-lits-clash.result) w.2 in
    let place : c.place-place.result ≡ place_in c.self.inside.trail.lits (complement c.index-lits-clash.result) = c.place-place.ensures ∙ ap (place_in c.self.inside.trail.lits) c.neg-2.ensures.value in
    omega (arith, place, p.0)

pub bounds-reasons-place : goal.bounds-reasons-place
bounds-reasons-place c =
    let is : c.index-lits-clash.result ≡ get_or c.self.inside.trail.lits (c.clash-clash.result - 1) c.index-lits-clash.result = c.index-lits-clash.is ∙ ap (λ (x : List Literal). get_or x (c.clash-clash.result - 1) c.index-lits-clash.result) c.lits.ensures.value in
    let w = clash_pair (state_of c.self.inside.trail.vars c.self.inside.memory c.self.inside.trail.lits c.self.inside.trail.reasons) c.clash-clash.result c.index-lits-clash.result c.self.invariant.0.sound c.clash-clash.ensures c.if-clash-eq0.false is in
    let p = place_at c.self.inside.trail.lits (complement c.index-lits-clash.result) w.2 in
    let place : c.place-place.result ≡ place_in c.self.inside.trail.lits (complement c.index-lits-clash.result) = c.place-place.ensures ∙ ap (place_in c.self.inside.trail.lits) c.neg-2.ensures.value in
    omega (arith, place, p.1, ap length c.reasons.ensures.value, c.self.invariant.0.sound.sizes)

pub unreachable-requires : goal.unreachable-requires
unreachable-requires c =
    let is : c.index-lits-clash.result ≡ get_or c.self.inside.trail.lits (c.clash-clash.result - 1) c.index-lits-clash.result = c.index-lits-clash.is ∙ ap (λ (x : List Literal). get_or x (c.clash-clash.result - 1) c.index-lits-clash.result) c.lits.ensures.value in
    let w = clash_pair (state_of c.self.inside.trail.vars c.self.inside.memory c.self.inside.trail.lits c.self.inside.trail.reasons) c.clash-clash.result c.index-lits-clash.result c.self.invariant.0.sound c.clash-clash.ensures c.if-clash-eq0.false is in
    let p = place_at c.self.inside.trail.lits (complement c.index-lits-clash.result) w.2 in
    let place : c.place-place.result ≡ place_in c.self.inside.trail.lits (complement c.index-lits-clash.result) = c.place-place.ensures ∙ ap (place_in c.self.inside.trail.lits) c.neg-2.ensures.value in
    let not : has (complement c.index-lits-clash.result) (assumed (state_of c.self.inside.trail.vars c.self.inside.memory c.self.inside.trail.lits c.self.inside.trail.reasons)) ≡ false = ap (λ k. has k (assumed (state_of c.self.inside.trail.vars c.self.inside.memory c.self.inside.trail.lits c.self.inside.trail.reasons))) (sym c.neg.ensures.value) ∙ sym c.is_assumed.ensures ∙ c.if-is_assumed.false in
    let d = place_derived (state_of c.self.inside.trail.vars c.self.inside.memory c.self.inside.trail.lits c.self.inside.trail.reasons) (complement c.index-lits-clash.result) c.self.invariant.0.sound w.2 not in
    let reason : get_or c.reasons.result.now (c.place-place.result - 1) 0 ≡ reason_at (state_of c.self.inside.trail.vars c.self.inside.memory c.self.inside.trail.lits c.self.inside.trail.reasons) (place_in c.self.inside.trail.lits (complement c.index-lits-clash.result) - 1) = ap (λ (x : List ℕ). get_or x (c.place-place.result - 1) 0) c.reasons.ensures.value ∙ ap (λ n. get_or c.self.inside.trail.reasons (n - 1) 0) place in
    d (sym reason ∙ sym c.in-None.ensures.value)

pub returns-clause-finds : goal.returns-clause-finds
returns-clause-finds c =
    let is : c.index-lits-clash.result ≡ get_or c.self.inside.trail.lits (c.clash-clash.result - 1) c.index-lits-clash.result = c.index-lits-clash.is ∙ ap (λ (x : List Literal). get_or x (c.clash-clash.result - 1) c.index-lits-clash.result) c.lits.ensures.value in
    let w = clash_pair (state_of c.self.inside.trail.vars c.self.inside.memory c.self.inside.trail.lits c.self.inside.trail.reasons) c.clash-clash.result c.index-lits-clash.result c.self.invariant.0.sound c.clash-clash.ensures c.if-clash-eq0.false is in
    let p = place_at c.self.inside.trail.lits (complement c.index-lits-clash.result) w.2 in
    let place : c.place-place.result ≡ place_in c.self.inside.trail.lits (complement c.index-lits-clash.result) = c.place-place.ensures ∙ ap (place_in c.self.inside.trail.lits) c.neg-2.ensures.value in
    let not : has (complement c.index-lits-clash.result) (assumed (state_of c.self.inside.trail.vars c.self.inside.memory c.self.inside.trail.lits c.self.inside.trail.reasons)) ≡ false = ap (λ k. has k (assumed (state_of c.self.inside.trail.vars c.self.inside.memory c.self.inside.trail.lits c.self.inside.trail.reasons))) (sym c.neg.ensures.value) ∙ sym c.is_assumed.ensures ∙ c.if-is_assumed.false in
    let d = place_derived (state_of c.self.inside.trail.vars c.self.inside.memory c.self.inside.trail.lits c.self.inside.trail.reasons) (complement c.index-lits-clash.result) c.self.invariant.0.sound w.2 not in
    let reason : get_or c.reasons.result.now (c.place-place.result - 1) 0 ≡ reason_at (state_of c.self.inside.trail.vars c.self.inside.memory c.self.inside.trail.lits c.self.inside.trail.reasons) (place_in c.self.inside.trail.lits (complement c.index-lits-clash.result) - 1) = ap (λ (x : List ℕ). get_or x (c.place-place.result - 1) 0) c.reasons.ensures.value ∙ ap (λ n. get_or c.self.inside.trail.reasons (n - 1) 0) place in
    let at : c.in-Some.at ≡ reason_at (state_of c.self.inside.trail.vars c.self.inside.memory c.self.inside.trail.lits c.self.inside.trail.reasons) (place_in c.self.inside.trail.lits (complement c.index-lits-clash.result) - 1) = c.in-Some.ensures.value ∙ reason in
    subst (λ (s : State). IsDerivedPair s.lits s.reasons c.in-Some.at) c.self.view_is (record {
      entry = place_in c.self.inside.trail.lits (complement c.index-lits-clash.result) - 1;
      some = λ z. d (sym at ∙ z);
      within = p.1;
      reason = sym at;
      complement = rw p.2 (subst (λ k. has k c.self.inside.trail.lits ≡ true) (sym (complement_twice c.index-lits-clash.result)) w.3);
    })
