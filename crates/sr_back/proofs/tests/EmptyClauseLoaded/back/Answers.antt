use Rattle.std.proofs.Common.{subst}
use Rattle.sr_load.specs.Loaded.{TookAll}
use Rattle.sr_back.proofs.EmptyFormula.{took_none}
use Rattle.sr_back.proofs.tests.EmptyClauseLoaded.back.Goals as goal

pub returns : goal.returns
returns c = subst (λ x. TookAll x x) c.self.view_is (took_none c.self.inside.formula c.self.inside.cited c.self.inside.assumed)
