use Rattle.std.proofs.Common.{◌++◌, ◌∷◌, [], ap, ◌∙◌}
use Rattle.sr_watch.specs.State.{State}
use Rattle.sr_load.proofs.Copying.{entries_more}
use Rattle.sr_load.proofs.Marking.{entries_assume}
use Rattle.sr_load.proofs.levels.assume.Goals as goal

pub returns-clause-entries : goal.returns-clause-entries
returns-clause-entries c =
    let root : State = c.close.new.propagator in
    let under = entries_more c.args.propagator.now root c.args.assumed.now c.args.marks.now.items c.close.ensures.derives c.close.ensures.sound c.requires.entries in
    let marks = c.push_reserved.ensures.items ∙ ap (λ x. x ++ c.mark.result ∷ []) c.reserve.ensures.items ∙ ap (λ n. c.args.marks.now.items ++ n ∷ []) c.mark.ensures in
    rw (c.in_ok-push.ensures.ok, marks) (entries_assume root c.assume.new.self c.args.assumed.now c.args.marks.now.items c.args.l c.assume.ensures under)
