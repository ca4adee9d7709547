use Rattle.std.proofs.Common.{◌∙◌, IfSome, ap, subst}
use Rattle.sr_watch.specs.Reasons.{MaySucceed, with_reason}
use Rattle.sr_watch.proofs.Replacing.{succeeded_watched}
use Rattle.sr_watch.proofs.cutting.succeed.Goals as goal

pub returns-in-Some-clause-watched : goal.returns-in-Some-clause-watched
returns-in-Some-clause-watched c known y =
    let may : MaySucceed c.args.memory.now c.args.trail.now c.args.place c.in-Some.reason = subst (λ o. IfSome o (λ r. MaySucceed c.args.memory.now c.args.trail.now c.args.place r)) c.in-Some.is c.requires.heir in
    rw (c.set_reason.ensures ∙ ap (with_reason c.args.trail.now c.args.place) c.index.ensures.value)
    (succeeded_watched c.args.memory.now known c.args.trail.now c.args.core.now c.args.rest.now c.args.place c.in-Some.reason may y)
