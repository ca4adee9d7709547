use Rattle.std.proofs.Common.{◌-◌, ◌≡◌, ◌⊎◌, inl, inr, true, false, sym, ◌∙◌, ap, arith}
use Rattle.sr_base.specs.Literal.{has, same, variable}
use Rattle.sr_watch.proofs.Tables.{in_list}
use Rattle.sr_watch.proofs.Marking.{variable_complement}
use Rattle.sr_watch.proofs.TwoWatches.{is_at, other_of, all_false, forces, watch_long}
use Rattle.sr_watch.proofs.examining.examine.Goals as goal
use Rattle.sr_watch.proofs.examining.examine.Goals.{then-is, else-is}

pub returns-then-is_true : goal.returns-then-is_true
returns-then-is_true c =
    let w : ((c.if-is.side ≡ 0) × (same c.index-clause-0.result c.args.watch ≡ true)) ⊎ ((c.if-is.side ≡ 1) × (same c.index-clause-0.result c.args.watch ≡ false)) =
    elim c.if-is.branch [ then-is w ↦ inl (w.side-is, sym c.is.ensures ∙ w.if-is.true) | else-is w ↦ inr (w.side-is, sym c.is.ensures ∙ w.if-is.false) ] in
    let at = is_at c.args.clause.now c.args.watch c.index-clause-side.result c.index-clause-0.result c.if-is.side c.requires.watch c.index-clause-0.is c.index-clause-side.is w in
    record { of_clause = other_of c.args.clause.now c.args.watch c.index-clause-side.result c.if-is.side (watch_long c.args.clause.now c.args.watch c.requires.watch) at; is_true = sym c.is_true.ensures ∙ c.if-is_true.true }

pub returns-then-is_true-2 : goal.returns-then-is_true-2
returns-then-is_true-2 c = record { of_clause = in_list c.args.clause.now c.in-Some.place c.index-clause-place.result c.in-Some.ensures.1 c.index-clause-place.is; is_true = sym c.is_true-in-Some.ensures ∙ c.if-is_true-2.true }

pub returns-in-Some : goal.returns-in-Some
returns-in-Some c =
    let w : ((c.if-is.side ≡ 0) × (same c.index-clause-0.result c.args.watch ≡ true)) ⊎ ((c.if-is.side ≡ 1) × (same c.index-clause-0.result c.args.watch ≡ false)) =
    elim c.if-is.branch [ then-is w ↦ inl (w.side-is, sym c.is.ensures ∙ w.if-is.true) | else-is w ↦ inr (w.side-is, sym c.is.ensures ∙ w.if-is.false) ] in
    let at = is_at c.args.clause.now c.args.watch c.index-clause-side.result c.index-clause-0.result c.if-is.side c.requires.watch c.index-clause-0.is c.index-clause-side.is w in
    record {
      side_low = at.low;
      falsified = at.watch;
      behind = c.in-Some.ensures.0;
      within = c.in-Some.ensures.1;
      not_false = c.in-Some.ensures.2;
      other_of = other_of c.args.clause.now c.args.watch c.index-clause-side.result c.if-is.side (watch_long c.args.clause.now c.args.watch c.requires.watch) at;
    }

pub returns-then-is_true-3 : goal.returns-then-is_true-3
returns-then-is_true-3 c =
    let w : ((c.if-is.side ≡ 0) × (same c.index-clause-0.result c.args.watch ≡ true)) ⊎ ((c.if-is.side ≡ 1) × (same c.index-clause-0.result c.args.watch ≡ false)) =
    elim c.if-is.branch [ then-is w ↦ inl (w.side-is, sym c.is.ensures ∙ w.if-is.true) | else-is w ↦ inr (w.side-is, sym c.is.ensures ∙ w.if-is.false) ] in
    let at = is_at c.args.clause.now c.args.watch c.index-clause-side.result c.index-clause-0.result c.if-is.side c.requires.watch c.index-clause-0.is c.index-clause-side.is w in
    all_false c.args.clause.now c.args.trail.now.lits c.args.watch c.index-clause-side.result c.if-is.side at c.requires.is_false (λ j low high. c.in_default.ensures j low high)
    (ap (λ x. has x c.args.trail.now.lits) (sym c.neg.ensures.value) ∙ sym c.is_true-2.ensures ∙ c.if-is_true-3.true)

pub returns : goal.returns
returns c =
    let w : ((c.if-is.side ≡ 0) × (same c.index-clause-0.result c.args.watch ≡ true)) ⊎ ((c.if-is.side ≡ 1) × (same c.index-clause-0.result c.args.watch ≡ false)) =
    elim c.if-is.branch [ then-is w ↦ inl (w.side-is, sym c.is.ensures ∙ w.if-is.true) | else-is w ↦ inr (w.side-is, sym c.is.ensures ∙ w.if-is.false) ] in
    let at = is_at c.args.clause.now c.args.watch c.index-clause-side.result c.index-clause-0.result c.if-is.side c.requires.watch c.index-clause-0.is c.index-clause-side.is w in (
      forces c.args.clause.now c.args.trail.now.lits c.args.watch c.index-clause-side.result c.if-is.side (watch_long c.args.clause.now c.args.watch c.requires.watch) at c.requires.is_false (λ j low high. c.in_default.ensures j low high),
      record {
        not_true = sym c.is_true.ensures ∙ c.if-is_true.false;
        not_false = ap (λ x. has x c.args.trail.now.lits) (sym c.neg.ensures.value) ∙ sym c.is_true-2.ensures ∙ c.if-is_true-3.false;
      },
    )

pub is_true-requires : goal.is_true-requires
is_true-requires c =
    let long = watch_long c.args.clause.now c.args.watch c.requires.watch in
    c.requires.within c.index-clause-side.result (in_list c.args.clause.now (1 - c.if-is.side) c.index-clause-side.result (omega (arith, long)) c.index-clause-side.is)

pub is_true-requires-in-Some : goal.is_true-requires-in-Some
is_true-requires-in-Some c = c.requires.within c.index-clause-place.result (in_list c.args.clause.now c.in-Some.place c.index-clause-place.result c.in-Some.ensures.1 c.index-clause-place.is)

pub is_true-requires-2 : goal.is_true-requires-2
is_true-requires-2 c =
    let long = watch_long c.args.clause.now c.args.watch c.requires.watch in
    let w = c.requires.within c.index-clause-side.result (in_list c.args.clause.now (1 - c.if-is.side) c.index-clause-side.result (omega (arith, long)) c.index-clause-side.is) in
    omega (arith, w, variable_complement c.index-clause-side.result, ap variable c.neg.ensures.value)
