use Rattle.std.proofs.Common.{◌≤◌, None, refl, ◌∙◌, sym, subst, arith}
use Rattle.sr_load.specs.Loaded.{LoadedState}
use Rattle.sr_load.specs.Holding.{IsLoading, before_lines}
use Rattle.sr_load.specs.Loader.{KeepsLoader, IsReached}
use Rattle.sr_load.proofs.Loads.{keeps_start, stops_first}
use Rattle.sr_load.proofs.loader.Loader.new.Goals as goal

pub invariant_of-result : goal.invariant_of-result
invariant_of-result c =
    let f = c.args.formula in let p = c.reached-progress.result in
    let few : c.ids.result ≤ 2147483647 = omega (arith, c.ids.ensures.bound) in
    let reached = subst (λ (st : LoadedState). IsReached st p) c.in_ok-timeline.ensures c.reached-progress.ensures.value in
    let loading : IsLoading (before_lines f) = record { none_undone = refl; none_cited = refl; none_assumed = refl } in
    subst (λ (st : LoadedState). KeepsLoader st p None c.ids.result) (sym (c.reached-progress.ensures.same ∙ c.in_ok-timeline.ensures)) (keeps_start (before_lines f) p c.ids.result refl loading reached few)

pub returns-clause-stops : goal.returns-clause-stops
returns-clause-stops c = stops_first c.args.formula c.reached-progress.result (subst (λ (st : LoadedState). IsReached st c.reached-progress.result) c.in_ok-timeline.ensures c.reached-progress.ensures.value)
