use Rattle.std.proofs.Common.{◌∙◌, ◌++◌, ◌∷◌, pos, ap}
use Rattle.sr_model.specs.Writing.{step_numbers}
use Rattle.sr_scan.specs.Written.{written_numbers, written_end}
use Rattle.sr_lsr.specs.Written.{step_start}
use Rattle.sr_lsr.proofs.WriteLemmas.{step_whole}
use Rattle.sr_lsr.proofs.write.step_bytes.Goals as goal

pub returns : goal.returns
returns c =
    c.in_ok-put_end.ensures.ok ∙ ap (λ o. o ++ written_end c.args.form) (c.in_ok-put_step.ensures ∙ ap (λ o. o ++ written_numbers c.args.form (pos c.args.step.now.id ∷ step_numbers c.args.step.now))
    (c.in_ok-put_step_start.ensures ∙ ap (λ o. o ++ step_start c.args.form) c.in_ok-out.ensures)) ∙ step_whole c.args.form c.args.step.now
