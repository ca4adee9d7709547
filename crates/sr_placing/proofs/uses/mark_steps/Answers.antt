use Rattle.std.proofs.Common.{◌∙◌, ◌+◌, false, cond, ap, sym, arith, get_or}
use Rattle.sr_steps.specs.Adding.{bare}
use Rattle.sr_placing.specs.Uses.{kept_cites}
use Rattle.sr_placing.proofs.Using.{some_at, use_more}
use Rattle.sr_placing.proofs.uses.mark_steps.Goals as goal

pub mark_step-requires-clause-within : goal.mark_step-requires-clause-within
mark_step-requires-clause-within c n h =
    let low = c.requires.within n (some_at n c.args.steps.now c.loop-i.i (bare 0 false) (omega arith) h) in omega (arith, low)

pub loop-i-preserved : goal.loop-i-preserved
loop-i-preserved c n =
    c.mark_step.ensures n ∙ ap (λ x. cond (kept_cites n (get_or c.args.steps.now c.loop-i.i (bare 0 false))) (c.loop-i.i + 1) x) (c.loop-i.invariant n)
    ∙ sym (use_more n c.args.steps.now c.loop-i.i (bare 0 false) (omega arith))
