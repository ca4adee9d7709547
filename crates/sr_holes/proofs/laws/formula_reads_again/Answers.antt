use Rattle.sr_model.proofs.FormulasAgain.{formulas_again}
use Rattle.sr_holes.specs.Holes.{pigeonhole_formula}
use Rattle.sr_holes.proofs.Within.{formula_within}
use Rattle.sr_holes.proofs.laws.formula_reads_again.Goals as goal

pub returns : goal.returns
returns c = λ lim n limits fits. formulas_again lim (pigeonhole_formula n) limits (formula_within lim n fits) fits.bytes
