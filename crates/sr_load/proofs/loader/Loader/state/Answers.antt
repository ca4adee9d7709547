use Rattle.std.proofs.Common.{subst}
use Rattle.sr_load.specs.Loading.{LoaderState}
use Rattle.sr_load.specs.Loader.{TellsStop}
use Rattle.sr_load.proofs.Loads.{tells_now}
use Rattle.sr_load.proofs.loader.Loader.state.Goals as goal

pub returns-clause-tells : goal.returns-clause-tells
returns-clause-tells c = subst (λ (l : LoaderState). TellsStop l c.self.inside.progress) c.self.view_is (tells_now _ c.self.inside.keep_units c.self.inside.ids c.self.inside.cells c.self.inside.progress _ c.self.invariant)
