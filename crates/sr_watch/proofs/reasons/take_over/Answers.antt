use Rattle.std.specs.Option.{is_some}
use Rattle.std.specs.Prelude.{MatchOption}
use Rattle.std.proofs.Common.{Option, Some, None, ◌≡◌, ◌≢◌, ◌<◌, ◌-◌, inr, ◌∙◌, ℕ, List, [], ◌∷◌, true, false, sym, ap, subst, arith, length, get_or, take}
use Rattle.sr_base.specs.Literal.{Literal, plus, has}
use Rattle.sr_base.proofs.Literals.{same_tells}
use Rattle.sr_arena.specs.Cells.{cell_at, IsHeld}
use Rattle.sr_watch.specs.Trail.{place_in}
use Rattle.sr_watch.specs.State.{IsAttached}
use Rattle.sr_watch.specs.Marks.{joined}
use Rattle.sr_watch.specs.Reasons.{with_reason}
use Rattle.sr_watch.proofs.Shorts.{reason_lit, long_has}
use Rattle.sr_watch.proofs.Marking.{attached_held}
use Rattle.sr_watch.proofs.Places.{place_le}
use Rattle.sr_watch.proofs.Visits.{within_cells}
use Rattle.sr_watch.proofs.Derivations.{place_lit, single_forces, spares_set}
use Rattle.sr_watch.proofs.reasons.take_over.Goals as goal

pub place-place-requires : goal.place-place-requires
place-place-requires c =
    let there : has c.in-Some.l (cell_at c.args.memory.now c.args.at).lits ≡ true = rw c.in-Some.ensures (grind (arith, same_tells c.in-Some.l c.in-Some.l)) in
    within_cells c.args.memory.now c.args.trail.now c.requires.sound c.args.at c.in-Some.l there

pub bounds-reasons-place : goal.bounds-reasons-place
bounds-reasons-place c = omega (arith, place_le c.args.trail.now.lits c.in-Some.l, c.requires.sound.sizes, ap (length {A = ℕ}) c.reasons.ensures.value)

pub set-requires-clause-high : goal.set-requires-clause-high
set-requires-clause-high c =
    let there : has c.in-Some.l (cell_at c.args.memory.now c.args.at).lits ≡ true = rw c.in-Some.ensures (grind (arith, same_tells c.in-Some.l c.in-Some.l)) in
    omega (arith, within_cells c.args.memory.now c.args.trail.now c.requires.sound c.args.at c.in-Some.l there, c.requires.spares.room)

-- a clause that isn't one of one literal
not_single : (o : Option Literal) (c : List Literal) → MatchOption o (length c ≢ 1) (λ l. c ≡ l ∷ []) → is_some o ≡ false → length c ≢ 1
not_single None c m z = m
not_single (Some l) c m z = absurd cc

pub returns-clause-taken : goal.returns-clause-taken
returns-clause-taken c =
    let n : ℕ = c.place-place.result - 1 in
    let some : 0 < place_in c.args.trail.now.lits c.in-Some.l = omega (arith, c.place-place.ensures) in
    let lit : get_or c.args.trail.now.lits n (plus 0) ≡ c.in-Some.l = ap (λ x. get_or c.args.trail.now.lits (x - 1) (plus 0)) c.place-place.ensures ∙ place_lit c.args.trail.now.lits c.in-Some.l some in
    let single : (cell_at c.args.memory.now c.args.at).lits ≡ get_or c.args.trail.now.lits n (plus 0) ∷ [] = c.in-Some.ensures ∙ ap (λ x. x ∷ []) (sym lit) in
    let is : get_or c.args.trail.now.reasons n 0 ≡ c.in-Some-from_index.reason = ap (λ (x : List ℕ). get_or x n 0) (sym c.reasons.ensures.value) ∙ sym c.in-Some-from_index.ensures.value in
    let d : get_or c.args.trail.now.reasons n 0 ≢ 0 = (λ z. let none : true ≡ false = c.in-Some-from_index.ensures.none.1 (ap (λ (x : List ℕ). get_or x n 0) c.reasons.ensures.value ∙ z) in absurd cc) in
    inr (record {
      place = n;
      may = record {
        within = omega (arith, place_le c.args.trail.now.lits c.in-Some.l);
        derived = d;
        some = omega (arith, c.index.ensures.low, c.index.ensures.value);
        attached = c.requires.attached;
        forced = single_forces (take n c.args.trail.now.lits) (cell_at c.args.memory.now c.args.at).lits (get_or c.args.trail.now.lits n (plus 0)) single;
      };
      single = single;
      before = rw is (long_has (cell_at c.args.memory.now c.in-Some-from_index.reason).lits (get_or c.args.trail.now.lits n (plus 0))
          (reason_lit c.args.memory.now c.args.trail.now c.in-Some-from_index.reason n c.requires.sound (omega (arith, d, is)) is).1
          (not_single c.single-2.result (cell_at c.args.memory.now c.in-Some-from_index.reason).lits c.single-2.ensures (sym c.if-is_some.ensures)));
      value = c.set_reason.ensures ∙ ap (with_reason c.args.trail.now n) c.index.ensures.value;
    })

pub returns-clause-spares : goal.returns-clause-spares
returns-clause-spares c =
    let n : ℕ = c.place-place.result - 1 in
    let there : has c.in-Some.l (cell_at c.args.memory.now c.args.at).lits ≡ true = rw c.in-Some.ensures (grind (arith, same_tells c.in-Some.l c.in-Some.l)) in
    let lt : c.var.result - 1 < length c.args.spares.now = omega (arith, within_cells c.args.memory.now c.args.trail.now c.requires.sound c.args.at c.in-Some.l there, c.requires.spares.room, c.var.ensures.value, c.var.ensures.low) in
    let is : get_or c.args.trail.now.reasons n 0 ≡ c.in-Some-from_index.reason = ap (λ (x : List ℕ). get_or x n 0) (sym c.reasons.ensures.value) ∙ sym c.in-Some-from_index.ensures.value in
    let d : get_or c.args.trail.now.reasons n 0 ≢ 0 = (λ z. let none : true ≡ false = c.in-Some-from_index.ensures.none.1 (ap (λ (x : List ℕ). get_or x n 0) c.reasons.ensures.value ∙ z) in absurd cc) in
    let held : IsHeld c.args.memory.now c.in-Some-from_index.reason = attached_held c.args.trail.now c.args.memory.now c.in-Some-from_index.reason c.requires.sound
    (subst (IsAttached (joined c.args.trail.now c.args.memory.now)) is (c.requires.sound.attached n (omega (arith, place_le c.args.trail.now.lits c.in-Some.l)) d)) in
    rw c.set.ensures (spares_set c.args.memory.now c.args.trail.now.vars c.args.spares.now (c.var.result - 1) c.in-Some-from_index.reason lt held c.requires.spares)
