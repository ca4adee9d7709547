use Rattle.std.proofs.Common.{◌<◌, ◌≤◌, ℕ, length, get_or, arith, refl, sym, ◌∙◌, ap, subst}
use Rattle.sr_arena.specs.declared.moves.Move.{Move}
use Rattle.sr_arena.specs.Compaction.{moved_to}
use Rattle.sr_arena.proofs.Moving.{moved_here, moved_past, from_any}
use Rattle.sr_arena.proofs.moves.CrefMap.get.Goals.{then-place-len+else-found-from, else-place-len}
use Rattle.sr_arena.proofs.moves.CrefMap.get.Goals as goal

pub returns-then-found-from-clause-value : goal.returns-then-found-from-clause-value
returns-then-found-from-clause-value c =
    let d : Move = c.index-found.result.now in
    let i : ℕ = c.first_from-place.result in
    let low : (k : ℕ) → k < i → (get_or c.self.inside.moves.items k d).from < c.args.old = λ k lt.
    subst (λ l. (get_or l k d).from < c.args.old) c.deref.ensures.value (subst (λ n. (get_or c.deref.result.now k d).from < n) c.index-from.ensures.value (c.first_from-place.ensures.below k d lt)) in
    let here = moved_here c.self.inside.moves.items i c.args.old d low (omega (arith, c.if-place-len.true, c.len.ensures, c.self.inside.moves.ok.0)) (ap (λ (m : Move). m.from) (sym c.index-found.ensures) ∙ c.if-found-from.true ∙ c.index-from.ensures.value) in
    c.from_index.ensures.value ∙ ap (λ (m : Move). m.to) c.index-found.ensures ∙ sym here ∙ ap (λ ms. moved_to ms c.args.old) c.self.view_is

pub returns-clause-value : goal.returns-clause-value
returns-clause-value c =
    let d : Move = record { from = 0; to = 0 } in
    let i : ℕ = c.first_from-place.result in
    let at : ℕ = c.args.old in
    let low : (k : ℕ) → k < i → (get_or c.self.inside.moves.items k d).from < at = λ k lt.
    subst (λ l. (get_or l k d).from < at) c.deref.ensures.value (subst (λ n. (get_or c.deref.result.now k d).from < n) c.index-from.ensures.value (c.first_from-place.ensures.below k d lt)) in
    let high : (k : ℕ) → i ≤ k → k < length c.self.inside.moves.items → at ≤ (get_or c.self.inside.moves.items k d).from = λ k le lt.
    subst (λ l. at ≤ (get_or l k d).from) c.deref.ensures.value (subst (λ n. n ≤ (get_or c.deref.result.now k d).from) c.index-from.ensures.value (c.first_from-place.ensures.left k d le (omega (arith, ap length c.deref.ensures.value)))) in
    sym (ap (λ ms. moved_to ms at) (sym c.self.view_is) ∙ moved_past c.self.inside.moves.items i at d c.self.invariant low high
    (elim c.if-place-len.branch [
      | then-place-len+else-found-from w ↦ λ lt e. w.if-found-from.false (ap (λ (m : Move). m.from) w.index-found.ensures ∙ from_any c.self.inside.moves.items i w.index-found.result.now d lt ∙ e ∙ sym c.index-from.ensures.value)
      | else-place-len w ↦ λ lt e. absurd (omega (arith, w.if-place-len.false, c.len.ensures, c.self.inside.moves.ok.0))
    ]))

pub returns-then-found-from-clause-none : goal.returns-then-found-from-clause-none
returns-then-found-from-clause-none c =
    let value = returns-then-found-from-clause-value c in
    (λ n. sym value ∙ c.from_index.ensures.value ∙ c.from_index.ensures.none.0 n, λ z. c.from_index.ensures.none.1 (sym c.from_index.ensures.value ∙ value ∙ z))

pub returns-clause-none : goal.returns-clause-none
returns-clause-none c = (λ n. sym (returns-clause-value c), λ z. refl)
