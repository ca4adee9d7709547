use Rattle.std.proofs.Common.{ap, sym, ◌∙◌}
use Rattle.sr_model.specs.Refutation.{has_empty}
use Rattle.sr_wit.specs.Pieces.{repeats_end}
use Rattle.sr_wit.proofs.PieceLemmas.{has_empty-pieces}
use Rattle.sr_wit.proofs.formula.Formula.has_empty.Goals as goal

pub returns : goal.returns
returns c =
    c.has_empty_piece.ensures ∙ ap (repeats_end 0) c.deref.ensures.value
    ∙ sym (has_empty-pieces 0 c.self.inside.ends.items c.self.inside.lits.items c.self.invariant.cut)
    ∙ ap (λ f. has_empty f.clauses) c.self.view_is
