use Rattle.std.proofs.Common.{arith, ap, subst}
use Rattle.std.specs.Prelude.{All}
use Rattle.sr_base.specs.Literal.{NoRepeats}
use Rattle.sr_model.specs.Chain.{clauses}
use Rattle.sr_load.specs.Loaded.{LoadedState, all_lines, all_in}
use Rattle.sr_load.specs.Loading.{lemmas_in}
use Rattle.sr_load.proofs.Extending.{few_lemmas, told_lemmas, all_distinct}
use Rattle.sr_load.proofs.timeline.Timeline.lemmas.Goals as goal

pub overflow_cast-result : goal.overflow_cast-result
overflow_cast-result c = let few = few_lemmas _ _ _ _ _ _ _ c.self.invariant.0 in omega (arith, few, c.len.ensures)

pub returns-clause-value : goal.returns-clause-value
returns-clause-value c = omega (arith, c.len.ensures, told_lemmas _ _ _ _ _ _ _ c.self.invariant.0, ap (λ (st : LoadedState). lemmas_in (all_lines st)) c.self.view_is)

pub returns-clause-distinct : goal.returns-clause-distinct
returns-clause-distinct c = subst (λ (st : LoadedState). All NoRepeats (clauses (all_in st))) c.self.view_is (all_distinct _ _ _ _ _ _ _ c.self.invariant.0)

pub returns-clause-few : goal.returns-clause-few
returns-clause-few c = let few = few_lemmas _ _ _ _ _ _ _ c.self.invariant.0 in omega (arith, few, c.len.ensures)
