use Rattle.std.proofs.Common.{List, subst}
use Rattle.sr_model.specs.Dimacs.{Formula}
use Rattle.sr_trimming.specs.Loading.{Done}
use Rattle.sr_trim.specs.Said.{trim_said}
use Rattle.sr_trim.specs.Passing.{PassesTo}
use Rattle.sr_trim.proofs.passing.pass.Goals as goal

pub returns-clause-passes : goal.returns-clause-passes
returns-clause-passes g c =
    let old = g.D.Desk.outside c.args.desk.now in
    let new = g.D.Desk.outside c.pass_back.new.desk in
    subst (λ (f : Formula). PassesTo c.args.limits.now (trim_said c.args.words.now) f c.args.loader.done old new c.pass_back.result.outcome c.pass_back.result.counts) c.in-Ok.ensures.formula
    (subst (λ (ds : List Done). PassesTo c.args.limits.now (trim_said c.args.words.now) c.in-Ok.loaded.formula ds old new c.pass_back.result.outcome c.pass_back.result.counts) c.in-Ok.ensures.standing
    c.pass_back.ensures.passes)
