use Rattle.std.proofs.Common.{subst}
use Rattle.sr_load.specs.Loaded.{LoadedState, HasClauseAt}
use Rattle.sr_load.proofs.proof.LoadedProofLoaded.clause.Goals as goal

pub returns : goal.returns
returns c = subst (λ (st : LoadedState). HasClauseAt st c.args.id c.clause.result.now) c.self.view_is c.clause.ensures
