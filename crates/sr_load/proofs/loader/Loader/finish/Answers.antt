use Rattle.std.proofs.Common.{◌∙◌, ap, sym, subst}
use Rattle.sr_load.specs.Loading.{LoaderState}
use Rattle.sr_load.specs.Loaded.{IsLoaded}
use Rattle.sr_load.proofs.Loads.{conflict_of, loaded_now}
use Rattle.sr_load.proofs.loader.Loader.finish.Goals as goal

pub returns-clause-loaded : goal.returns-clause-loaded
returns-clause-loaded c =
    let at = conflict_of c.self.inside.progress (ap (λ (l : LoaderState). l.stop) c.self.view_is ∙ c.requires) in
    subst IsLoaded (sym c.new.ensures) (loaded_now c.self.inside.timeline c.self.inside.progress _ _ at c.self.invariant c.lemmas-lemmas.ensures.pivots c.lemmas-lemmas.ensures.distinct c.lemmas-lemmas.ensures.small)
