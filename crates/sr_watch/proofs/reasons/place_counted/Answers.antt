use Rattle.std.proofs.Common.{◌≡◌, ◌-◌, ℕ, List, sym, ◌∙◌, ap, subst, arith, length, get_or, take, take_all}
use Rattle.sr_base.specs.Literal.{Literal}
use Rattle.sr_arena.specs.Cells.{cell_at}
use Rattle.sr_watch.specs.Reasons.{IsReasonAt}
use Rattle.sr_watch.proofs.Tables.{in_list}
use Rattle.sr_watch.proofs.Places.{place_le}
use Rattle.sr_watch.proofs.Visits.{within_cells}
use Rattle.sr_watch.proofs.Derivations.{IsNotOf, reason_here, reason_nowhere, not_of_more}
use Rattle.sr_watch.proofs.reasons.place_counted.Goals as goal
use Rattle.sr_watch.proofs.reasons.place_counted.Goals.{else-place-ne0-via-then-place-ne0+else-reasons-place, else-place-ne0-via-else-place-ne0}

pub place-place-requires : goal.place-place-requires
place-place-requires g c =
    let is : c.l-item.result ≡ get_or (cell_at c.args.memory.now c.args.at).lits c.loop-l.l-index c.l-item.result = c.l-item.is ∙ ap (λ (x : List Literal). get_or x c.loop-l.l-index c.l-item.result) c.lits-clause.ensures.value in
    within_cells c.args.memory.now c.args.trail.now c.requires.sound c.args.at c.l-item.result (in_list (cell_at c.args.memory.now c.args.at).lits c.loop-l.l-index c.l-item.result (omega (arith, ap (length {A = Literal}) c.lits-clause.ensures.value)) is)

pub bounds-reasons-place : goal.bounds-reasons-place
bounds-reasons-place g c = omega (arith, place_le c.args.trail.now.lits c.l-item.result, c.requires.sound.sizes, ap (length {A = ℕ}) c.reasons-reasons.ensures.value)

pub returns-then-reasons-place : goal.returns-then-reasons-place
returns-then-reasons-place g c =
    let q : get_or c.args.trail.now.reasons (c.place-place.result - 1) 0 ≡ c.args.at = ap (λ (x : List ℕ). get_or x (c.place-place.result - 1) 0) (sym c.reasons-reasons.ensures.value) ∙ c.if-reasons-place.true ∙ c.index-reason.ensures.value in
    reason_here c.args.trail.now c.args.memory.now c.args.at (c.place-place.result - 1) c.requires.sound (omega (arith, c.index-reason.ensures.value)) (omega (arith, place_le c.args.trail.now.lits c.l-item.result)) q

pub loop-l-preserved : goal.loop-l-preserved
loop-l-preserved g c =
    not_of_more c.args.trail.now c.args.memory.now c.args.at c.loop-l.l-index c.lits-clause.result.now c.l-item.result c.requires.sound (omega (arith, c.index-reason.ensures.value)) (omega arith) c.l-item.is
    (λ ne. elim c.else-place-ne0.branch [
      | else-place-ne0-via-then-place-ne0+else-reasons-place w ↦ (λ q. w.if-reasons-place.false (ap (λ (x : List ℕ). get_or x (c.place-place.result - 1) 0) c.reasons-reasons.ensures.value ∙ ap (λ n. get_or c.args.trail.now.reasons (n - 1) 0) c.place-place.ensures ∙ q ∙ sym c.index-reason.ensures.value))
      | else-place-ne0-via-else-place-ne0 w ↦ (λ q. ne (sym c.place-place.ensures ∙ w.if-place-ne0.false))
    ])
    c.loop-l.invariant

pub returns : goal.returns
returns g c =
    let all : take c.loop-l.l-index c.lits-clause.result.now ≡ (cell_at c.args.memory.now c.args.at).lits = take_all c.loop-l.l-index c.lits-clause.result.now (omega arith) ∙ c.lits-clause.ensures.value in
    let end : length c.args.trail.now.lits ≡ length c.reasons-reasons.result.now = omega (arith, ap (length {A = ℕ}) c.reasons-reasons.ensures.value, c.requires.sound.sizes) in
    subst (λ n. IsReasonAt c.args.trail.now c.args.at n) end
    (reason_nowhere c.args.trail.now c.args.memory.now c.args.at c.requires.sound (omega (arith, c.index-reason.ensures.value)) (subst (IsNotOf c.args.trail.now c.args.at) all c.loop-l.invariant))
