use Rattle.std.proofs.Common.{◌∙◌, sym, ap}
use Rattle.sr_watch.specs.State.{held_cells}
use Rattle.sr_watch.proofs.Keeping.{cells_are}
use Rattle.sr_watch.proofs.propagator.Propagator.held_cells.Goals as goal

pub returns : goal.returns
returns c = c.held_cells.ensures.value ∙ sym (cells_are c.self.inside.trail.vars c.self.inside.memory c.self.inside.trail.lits c.self.inside.trail.reasons) ∙ ap held_cells c.self.view_is
