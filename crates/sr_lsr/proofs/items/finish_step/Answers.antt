use Rattle.sr_base.specs.Contents.{Contents}
use Rattle.sr_scan.specs.Left.{tokens_left}
use Rattle.sr_lsr.proofs.StepLemmas.{hints_stop, step_read}
use Rattle.sr_lsr.proofs.items.finish_step.Goals as goal

pub returns-in-Err-clause-item : goal.returns-in-Err-clause-item
returns-in-Err-clause-item g c = λ (k : Contents) h.
    hints_stop c.args.limits.now c.ids.result c.args.id c.args.lists.now.lits c.args.end (tokens_left c.args.form 2 1 c.args.reader.now k) (tokens_left c.args.form 2 0 c.read_hints.new.reader k) c.in-Err.error
    c.ids.ensures.value (c.in-Err.ensures.hints k h)

pub returns-in-Ok-clause-item : goal.returns-in-Ok-clause-item
returns-in-Ok-clause-item g c = λ (k : Contents) h.
    step_read c.args.limits.now c.ids.result c.args.id c.args.lists.now.lits c.args.end c.read_hints.new.hints.prefix c.read_hints.new.hints.groups
    (tokens_left c.args.form 2 1 c.args.reader.now k) (tokens_left c.args.form 2 0 c.read_hints.new.reader k) c.ids.ensures.value (c.in-Ok.ensures.hints k h)
