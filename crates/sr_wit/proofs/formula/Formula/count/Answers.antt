use Rattle.std.proofs.Common.{arith, length, ap}
use Rattle.std.proofs.lemmas.Grind.{common_steps}
use Rattle.sr_wit.proofs.PieceLemmas.{length-pieces}
use Rattle.sr_wit.proofs.formula.Formula.count.Goals as goal

pub returns-clause-value : goal.returns-clause-value
returns-clause-value c =
    let count = length-pieces 0 c.self.inside.ends.items c.self.inside.lits.items in
    let same = ap (λ f. length f.clauses) c.self.view_is in
    grind (arith, common_steps)
