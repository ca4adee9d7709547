use Rattle.std.proofs.Common.{◌∙◌, ap, subst, length}
use Rattle.std.specs.Prelude.{All}
use Rattle.sr_base.specs.Literal.{NoRepeats}
use Rattle.sr_model.specs.Dimacs.{Formula}
use Rattle.sr_placing.specs.Placing.{PlacingValue}
use Rattle.sr_load.specs.Loaded.{all_lines}
use Rattle.sr_trim.proofs.Passed.{counts_are}
use Rattle.sr_trim.proofs.ready.count.Goals as goal

pub returns-clause-distinct : goal.returns-clause-distinct
returns-clause-distinct g c = subst (λ (f : Formula). All NoRepeats f.clauses) c.formula.ensures c.count.ensures.distinct

pub returns-clause-counts : goal.returns-clause-counts
returns-clause-counts g c ts w =
    let st = g.L.Loaded.state c.args.loaded.now in
    counts_are st.formula.clauses (all_lines st) c.args.steps.now ts _ w
    (c.from.ensures ∙ c.count.ensures.value ∙ ap (λ (f : Formula). length f.clauses) c.formula.ensures)
    (c.statistics-sizes.ensures.core ∙ ap (λ (p : PlacingValue). length p.core) c.requires.placed)
    (c.from-2.ensures ∙ c.requires.lemmas) c.statistics-sizes.ensures.steps c.statistics-sizes.ensures.hints c.requires.passed
