use Rattle.std.proofs.Common.{◌∙◌, ap}
use Rattle.sr_load.specs.Loading.{LoaderState, passed_in}
use Rattle.sr_load.proofs.Loads.{passed_now}
use Rattle.sr_load.proofs.loader.Loader.passed.Goals as goal

pub returns : goal.returns
returns c = c.passed.ensures ∙ passed_now c.self.inside.timeline c.self.inside.progress c.self.invariant.loading ∙ ap (λ (l : LoaderState). passed_in l.done) c.self.view_is
