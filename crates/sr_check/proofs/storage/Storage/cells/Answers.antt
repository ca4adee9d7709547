use Rattle.std.proofs.Common.{◌∙◌, ap}
use Rattle.sr_model.specs.Chain.{clauses}
use Rattle.sr_model.specs.Judging.{cells_of}
use Rattle.sr_check.specs.Storage.{Stored}
use Rattle.sr_check.proofs.Storing.{counts}
use Rattle.sr_check.proofs.storage.Storage.cells.Goals as goal

pub returns-clause-value : goal.returns-clause-value
returns-clause-value c = c.held_cells.ensures.value ∙ counts c.self.inside.mem ∙ ap (λ (s : Stored). cells_of (clauses s.clauses)) c.self.view_is
