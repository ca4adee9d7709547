use Rattle.std.proofs.Common.{arith, ap, ◌∙◌, subst}
use Rattle.sr_load.specs.Loaded.{LoadedState, HasClauseAt, next_of}
use Rattle.sr_load.proofs.Keeping.{clause_held, clause_told}
use Rattle.sr_load.proofs.timeline.Timeline.clause.Goals as goal

pub lits_at-requires : goal.lits_at-requires
lits_at-requires c =
    let size = c.self.invariant.0.size ∙ ap next_of c.self.view_is in
    clause_held _ _ _ _ _ _ _ c.args.id _ c.self.invariant.0 c.requires.low (omega (arith, size, c.requires.high)) c.index.ensures

pub returns : goal.returns
returns c =
    let size = c.self.invariant.0.size ∙ ap next_of c.self.view_is in
    subst (λ (st : LoadedState). HasClauseAt st c.args.id c.lits_at.result.now) c.self.view_is
    (λ d e. clause_told _ _ _ _ _ _ _ c.args.id _ c.lits_at.result.now d c.self.invariant.0 c.requires.low (omega (arith, size, c.requires.high)) c.index.ensures c.lits_at.ensures.set c.lits_at.ensures.distinct e)
