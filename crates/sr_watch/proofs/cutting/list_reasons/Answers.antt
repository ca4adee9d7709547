use Rattle.std.proofs.Common.{◌≡◌, ◌≢◌, ◌<◌, ◌≤◌, ◌-◌, ◌∙◌, ℕ, List, [], true, false, min, refl, sym, ap, subst, arith, length, get_or}
use Rattle.sr_arena.specs.Cells.{IsHeld}
use Rattle.sr_watch.specs.declared.watches.Watches.{Watches}
use Rattle.sr_watch.specs.Watching.{on_side, is_of, tally}
use Rattle.sr_watch.proofs.Cuts.{IsFreeing, freeing_start, freeing_skip, freeing_push, none_short, freeing_few, freeing_room, freeing_keys, freed_rests}
use Rattle.sr_watch.proofs.cutting.list_reasons.Goals as goal

pub loop-place-init : goal.loop-place-init
loop-place-init c =
    let e : c.min-place.result ≡ (min c.args.watches.now.top (length c.args.trail.now.reasons)) = c.min-place.ensures ∙ ap (λ (x : List ℕ). min c.args.watches.now.top (length x)) c.reasons-reasons.ensures.value in
    record {
      freeing = subst (λ p. IsFreeing c.args.core c.args.memory.now c.args.trail.now c.args.watches.now.lists c.args.watches.now.lists p (min c.args.watches.now.top (length c.args.trail.now.reasons))) (sym e) (freeing_start c.args.core c.args.memory.now c.args.trail.now c.args.watches.now (min c.args.watches.now.top (length c.args.trail.now.reasons)) c.requires.resting);
      low = omega (arith, e);
      rest = refl;
    }

pub is_on-requires : goal.is_on-requires
is_on-requires c =
    let is : get_or c.args.trail.now.reasons (c.loop-place.place - 1) 0 ≡ c.in-Some.at = ap (λ (x : List ℕ). get_or x (c.loop-place.place - 1) 0) (sym c.reasons-reasons.ensures.value) ∙ sym c.in-Some.ensures.value in
    let d : get_or c.args.trail.now.reasons (c.loop-place.place - 1) 0 ≢ 0 = (λ z. let none : true ≡ false = c.in-Some.ensures.none.1 (ap (λ (x : List ℕ). get_or x (c.loop-place.place - 1) 0) c.reasons-reasons.ensures.value ∙ z) in absurd cc) in
    subst (IsHeld c.args.memory.now) is (c.requires.reasons.held (c.loop-place.place - 1) (omega (arith, d)))

pub single-requires : goal.single-requires
single-requires c =
    let is : get_or c.args.trail.now.reasons (c.loop-place.place - 1) 0 ≡ c.in-Some.at = ap (λ (x : List ℕ). get_or x (c.loop-place.place - 1) 0) (sym c.reasons-reasons.ensures.value) ∙ sym c.in-Some.ensures.value in
    let d : get_or c.args.trail.now.reasons (c.loop-place.place - 1) 0 ≢ 0 = (λ z. let none : true ≡ false = c.in-Some.ensures.none.1 (ap (λ (x : List ℕ). get_or x (c.loop-place.place - 1) 0) c.reasons-reasons.ensures.value ∙ z) in absurd cc) in
    subst (IsHeld c.args.memory.now) is (c.requires.reasons.held (c.loop-place.place - 1) (omega (arith, d)))

pub push-requires-clause-key : goal.push-requires-clause-key
push-requires-clause-key c =
    let is : get_or c.args.trail.now.reasons (c.loop-place.place - 1) 0 ≡ c.in-Some.at = ap (λ (x : List ℕ). get_or x (c.loop-place.place - 1) 0) (sym c.reasons-reasons.ensures.value) ∙ sym c.in-Some.ensures.value in
    let d : get_or c.args.trail.now.reasons (c.loop-place.place - 1) 0 ≢ 0 = (λ z. let none : true ≡ false = c.in-Some.ensures.none.1 (ap (λ (x : List ℕ). get_or x (c.loop-place.place - 1) 0) c.reasons-reasons.ensures.value ∙ z) in absurd cc) in
    let held : IsHeld c.args.memory.now c.in-Some.at = subst (IsHeld c.args.memory.now) is (c.requires.reasons.held (c.loop-place.place - 1) (omega (arith, d))) in
    freeing_keys c.args.core c.args.memory.now c.args.trail.now c.args.watches.now.lists c.loop-place.watches.lists (length c.requires.room.0) c.loop-place.place (min c.args.watches.now.top (length c.args.trail.now.reasons)) c.in-Some.at c.loop-place.invariant.freeing c.requires.room.1 c.requires.room.2 held

pub push-requires-clause-room : goal.push-requires-clause-room
push-requires-clause-room c =
    let is : get_or c.args.trail.now.reasons (c.loop-place.place - 1) 0 ≡ c.in-Some.at = ap (λ (x : List ℕ). get_or x (c.loop-place.place - 1) 0) (sym c.reasons-reasons.ensures.value) ∙ sym c.in-Some.ensures.value in
    let d : get_or c.args.trail.now.reasons (c.loop-place.place - 1) 0 ≢ 0 = (λ z. let none : true ≡ false = c.in-Some.ensures.none.1 (ap (λ (x : List ℕ). get_or x (c.loop-place.place - 1) 0) c.reasons-reasons.ensures.value ∙ z) in absurd cc) in
    let held : IsHeld c.args.memory.now c.in-Some.at = subst (IsHeld c.args.memory.now) is (c.requires.reasons.held (c.loop-place.place - 1) (omega (arith, d))) in
    let few : tally c.loop-place.watches.lists [] (is_of c.in-Some.at) ≤ 1 = freeing_few c.args.core c.args.memory.now c.args.trail.now c.args.watches.now c.loop-place.watches.lists c.loop-place.place (min c.args.watches.now.top (length c.args.trail.now.reasons)) c.in-Some.at c.in-Some-single.blocker
    c.requires.resting c.loop-place.invariant.freeing (omega (arith, d, is)) (omega (arith, c.loop-place-test.true)) is (sym c.is_on.ensures ∙ c.if-not-is_on.false) c.in-Some-single.ensures in
    freeing_room c.args.core c.args.memory.now c.args.trail.now c.args.watches.now c.loop-place.watches.lists (length c.requires.room.0) c.loop-place.place (min c.args.watches.now.top (length c.args.trail.now.reasons)) c.in-Some.at c.loop-place.invariant.freeing c.requires.room.1 c.requires.room.2 held few

pub loop-place-preserved-in-Some-single : goal.loop-place-preserved-in-Some-single
loop-place-preserved-in-Some-single c =
    let is : get_or c.args.trail.now.reasons (c.loop-place.place - 1) 0 ≡ c.in-Some.at = ap (λ (x : List ℕ). get_or x (c.loop-place.place - 1) 0) (sym c.reasons-reasons.ensures.value) ∙ sym c.in-Some.ensures.value in
    let d : get_or c.args.trail.now.reasons (c.loop-place.place - 1) 0 ≢ 0 = (λ z. let none : true ≡ false = c.in-Some.ensures.none.1 (ap (λ (x : List ℕ). get_or x (c.loop-place.place - 1) 0) c.reasons-reasons.ensures.value ∙ z) in absurd cc) in
    let some : 0 < c.in-Some.at = omega (arith, d, is) in
    let on : on_side c.args.core c.args.memory.now c.in-Some.at ≡ true = sym c.is_on.ensures ∙ c.if-not-is_on.false in
    let above : 0 < c.loop-place.place = omega (arith, c.loop-place-test.true) in
    let held : IsHeld c.args.memory.now c.in-Some.at = subst (IsHeld c.args.memory.now) is (c.requires.reasons.held (c.loop-place.place - 1) (omega (arith, d))) in
    record {
      freeing = freeing_push c.args.core c.args.memory.now c.args.trail.now c.args.watches.now.lists c.loop-place.watches.lists c.push.new.self c.loop-place.place (min c.args.watches.now.top (length c.args.trail.now.reasons))
          (record { blocker = c.in-Some-single.blocker; at = c.in-Some.at }) c.requires.reasons some is on c.in-Some-single.ensures above
          (freeing_keys c.args.core c.args.memory.now c.args.trail.now c.args.watches.now.lists c.loop-place.watches.lists (length c.requires.room.0) c.loop-place.place (min c.args.watches.now.top (length c.args.trail.now.reasons)) c.in-Some.at c.loop-place.invariant.freeing c.requires.room.1 c.requires.room.2 held)
          (freeing_few c.args.core c.args.memory.now c.args.trail.now c.args.watches.now c.loop-place.watches.lists c.loop-place.place (min c.args.watches.now.top (length c.args.trail.now.reasons)) c.in-Some.at c.in-Some-single.blocker c.requires.resting c.loop-place.invariant.freeing some above is on c.in-Some-single.ensures)
          c.push.ensures c.loop-place.invariant.freeing;
      low = omega (arith, c.loop-place.invariant.low, c.loop-place-test.true);
      rest = ap (λ (x : Watches). record x { lists = c.push.new.self }) c.loop-place.invariant.rest;
    }

pub loop-place-preserved : goal.loop-place-preserved
loop-place-preserved c =
    let is : get_or c.args.trail.now.reasons (c.loop-place.place - 1) 0 ≡ c.in-Some.at = ap (λ (x : List ℕ). get_or x (c.loop-place.place - 1) 0) (sym c.reasons-reasons.ensures.value) ∙ sym c.in-Some.ensures.value in
    let d : get_or c.args.trail.now.reasons (c.loop-place.place - 1) 0 ≢ 0 = (λ z. let none : true ≡ false = c.in-Some.ensures.none.1 (ap (λ (x : List ℕ). get_or x (c.loop-place.place - 1) 0) c.reasons-reasons.ensures.value ∙ z) in absurd cc) in
    let some : 0 < c.in-Some.at = omega (arith, d, is) in
    let above : 0 < c.loop-place.place = omega (arith, c.loop-place-test.true) in
    record {
      freeing = freeing_skip c.args.core c.args.memory.now c.args.trail.now c.args.watches.now.lists c.loop-place.watches.lists c.loop-place.place (min c.args.watches.now.top (length c.args.trail.now.reasons)) above
          (none_short c.args.core c.args.memory.now c.args.trail.now (c.loop-place.place - 1) c.in-Some.at c.requires.reasons some is c.in_default-single.ensures) c.loop-place.invariant.freeing;
      low = omega (arith, c.loop-place.invariant.low, c.loop-place-test.true);
      rest = c.loop-place.invariant.rest;
    }

pub returns-clause-resting : goal.returns-clause-resting
returns-clause-resting c =
    freed_rests c.args.core c.args.memory.now c.args.trail.now c.args.watches.now (record c.loop-place.watches { top = c.min-watches.result }) c.args.mark c.loop-place.place
    (ap (λ (x : Watches). record x { top = c.min-watches.result }) c.loop-place.invariant.rest
    ∙ ap (λ t. record c.args.watches.now { lists = c.loop-place.watches.lists; top = t }) (c.min-watches.ensures ∙ ap (λ (x : Watches). min x.top c.args.mark) c.loop-place.invariant.rest))
    c.loop-place-test.false c.loop-place.invariant.low c.loop-place.invariant.freeing c.requires.resting

pub returns-clause-shape : goal.returns-clause-shape
returns-clause-shape c = c.loop-place.invariant.freeing.shape
