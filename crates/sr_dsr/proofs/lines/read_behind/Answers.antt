use Rattle.std.proofs.Common.{[]}
use Rattle.sr_base.specs.Contents.{Contents}
use Rattle.sr_base.specs.declared.names.LimitKind.TheVariants as limit
use Rattle.sr_model.specs.Lsr.{numbers_after}
use Rattle.sr_scan.specs.Left.{tokens_left}
use Rattle.sr_dsr.proofs.FrameLemmas.{frame_stops, frame_read}
use Rattle.sr_dsr.proofs.lines.read_behind.Goals as goal

pub returns-in-Err-clause-frame : goal.returns-in-Err-clause-frame
returns-in-Err-clause-frame g c = λ (k : Contents) h.
    frame_stops c.args.kind (λ n. numbers_after limit.Vars n [] (tokens_left c.args.form 1 1 c.args.reader.now k)) c.vars.result c.args.limits.now.vars c.in-Err.error c.vars.ensures.value (c.in-Err.ensures.literals 1 0 k h)

pub returns-in-Ok-clause-frame : goal.returns-in-Ok-clause-frame
returns-in-Ok-clause-frame g c = λ (k : Contents) h.
    frame_read c.args.kind (λ n. numbers_after limit.Vars n [] (tokens_left c.args.form 1 1 c.args.reader.now k)) c.vars.result c.args.limits.now.vars (tokens_left c.args.form 1 0 c.read_all_literals.new.reader k)
    c.read_all_literals.new.lits c.in-Ok.end c.vars.ensures.value c.in-Ok.ensures.named (c.in-Ok.ensures.literals 1 0 k h)
