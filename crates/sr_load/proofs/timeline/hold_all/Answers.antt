use Rattle.std.proofs.Common.{◌≡◌, ◌+◌, ◌-◌, [], get_or, arith, ap, ◌∙◌}
use Rattle.sr_load.proofs.Extending.{holds_none, holds_next}
use Rattle.sr_load.proofs.timeline.hold_all.Goals as goal

pub loop-i-init : goal.loop-i-init
loop-i-init c = rw (c.requires.refs, c.requires.flags) (holds_none c.args.propagator.now c.args.formula.now.clauses c.requires.none)

pub loop-i-preserved : goal.loop-i-preserved
loop-i-preserved c =
    let same : c.loop-i.i + 1 - 1 ≡ c.loop-i.i = omega arith in
    holds_next _ _ _ _ _ _ c.args.formula.now.clauses c.loop-i.i c.clause.result.now (omega (arith, c.loop-i-test.true, c.count-i-end.ensures.value)) (c.clause.ensures.value ∙ ap (λ j. get_or c.args.formula.now.clauses j []) same) c.clause.ensures.distinct c.loop-i.invariant c.in_ok-hold.ensures.ok c.in_ok-hold.ensures.flags
