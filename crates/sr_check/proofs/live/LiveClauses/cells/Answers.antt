use Rattle.std.proofs.Common.{◌∙◌, ap}
use Rattle.sr_model.specs.Chain.{clauses}
use Rattle.sr_model.specs.Judging.{cells_of}
use Rattle.sr_check.proofs.Storing.{counts}
use Rattle.sr_check.proofs.live.LiveClauses.cells.Goals as goal

pub returns : goal.returns
returns c = c.held_cells.ensures.value ∙ counts c.self.inside.mem.now ∙ ap (λ x. cells_of (clauses x)) c.self.view_is
