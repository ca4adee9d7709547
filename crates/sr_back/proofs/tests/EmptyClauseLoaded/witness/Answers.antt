use Rattle.std.proofs.Common.{subst, None}
use Rattle.sr_load.specs.Loaded.{HasWitnessAt}
use Rattle.sr_back.proofs.EmptyFormula.{no_witness}
use Rattle.sr_back.proofs.tests.EmptyClauseLoaded.witness.Goals as goal

pub returns : goal.returns
returns c = subst (λ x. HasWitnessAt x c.args._id None) c.self.view_is (no_witness c.self.inside.formula c.self.inside.cited c.self.inside.assumed c.args._id)
