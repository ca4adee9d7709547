use Rattle.std.proofs.Common.{arith, ap}
use Rattle.std.proofs.lemmas.Grind.{common_steps}
use Rattle.sr_model.specs.Judging.{cells_of}
use Rattle.sr_wit.proofs.PieceLemmas.{cells-pieces}
use Rattle.sr_wit.proofs.formula.Formula.cells.Goals as goal

pub returns : goal.returns
returns c =
    let cells = cells-pieces 0 c.self.inside.ends.items c.self.inside.lits.items c.self.invariant.cut in
    let same = ap (λ f. cells_of f.clauses) c.self.view_is in
    grind (arith, common_steps)
