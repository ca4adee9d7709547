use Rattle.std.proofs.Common.{◌∙◌, ap}
use Rattle.sr_model.specs.Assignment.{holds_number}
use Rattle.sr_back.proofs.EmptyFormula.{holds_is_any}
use Rattle.sr_back.proofs.tests.EmptyClauseLoaded.is_cited.Goals as goal

pub returns : goal.returns
returns c = c.contains.ensures.value ∙ holds_is_any c.args.id c.as_slice.result.now ∙ ap (holds_number c.args.id) (c.as_slice.ensures ∙ ap (λ v. v.cited) c.self.view_is)
