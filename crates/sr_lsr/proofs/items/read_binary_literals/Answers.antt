use Rattle.std.proofs.Common.{[]}
use Rattle.sr_base.specs.Contents.{Contents}
use Rattle.sr_base.specs.declared.names.LimitKind.TheVariants as limit
use Rattle.sr_model.specs.Lsr.{numbers_after}
use Rattle.sr_scan.specs.Left.{binary_left}
use Rattle.sr_scan.proofs.ReadLemmas.{agreed}
use Rattle.sr_lsr.specs.Frames.{told}
use Rattle.sr_lsr.proofs.StepLemmas.{literals_stop, step_behind}
use Rattle.sr_lsr.proofs.items.read_binary_literals.Goals as goal

pub returns-in-Err-clause-item : goal.returns-in-Err-clause-item
returns-in-Err-clause-item g c = λ (k : Contents) h.
    literals_stop c.args.limits.now c.vars.result c.args.id (λ n. numbers_after limit.Vars n [] (binary_left 2 2 c.args.reader.now k)) c.in-Err.error c.vars.ensures.value (c.in-Err.ensures.literals 2 1 k h)

pub returns-in-Ok-clause-item : goal.returns-in-Ok-clause-item
returns-in-Ok-clause-item g c = λ (k : Contents) h.
    step_behind c.args.limits.now c.vars.result c.args.id (λ n. numbers_after limit.Vars n [] (binary_left 2 2 c.args.reader.now k)) (binary_left 2 1 c.read_all_literals.new.reader k) (binary_left 2 0 c.finish_step.new.reader k)
    c.read_all_literals.new.lits c.in-Ok.end (told c.finish_step.new.lists c.finish_step.result) c.vars.ensures.value c.in-Ok.ensures.named (c.in-Ok.ensures.literals 2 1 k (agreed c.finish_step.ensures.reads h))
    (c.finish_step.ensures.item k h)
