use Rattle.std.proofs.Common.{◌∙◌, ◌+◌, ◌++◌, ap, sym, arith}
use Rattle.sr_load.specs.Loading.{LoaderState, lemmas_in}
use Rattle.sr_load.specs.Loader.{empty_lemma}
use Rattle.sr_load.proofs.Loads.{lemmas_empty}
use Rattle.sr_load.proofs.loader.Loader.lemmas.Goals as goal

pub overflow_add-result : goal.overflow_add-result
overflow_add-result c = omega (arith, c.lemmas.ensures.few)

pub returns-in-EmptyLemma : goal.returns-in-EmptyLemma
returns-in-EmptyLemma c =
    ap (λ n. n + 1) c.lemmas.ensures.value ∙ lemmas_empty c.self.inside.timeline c.in-EmptyLemma.field-0 c.self.invariant.loading ∙ ap (λ p. lemmas_in (c.self.inside.timeline.standing ++ empty_lemma p)) (sym c.in-EmptyLemma.is) ∙ ap (λ (l : LoaderState). lemmas_in l.done) c.self.view_is
