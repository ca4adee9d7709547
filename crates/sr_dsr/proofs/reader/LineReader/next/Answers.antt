use Rattle.std.proofs.Common.{◌≡◌, ◌∙◌, Some, None, Ok, Err, subst}
use Rattle.sr_base.specs.Contents.{Contents}
use Rattle.sr_model.specs.Dsr.{line_in}
use Rattle.sr_model.specs.Reading.{reads}
use Rattle.sr_scan.specs.Left.{tokens_left}
use Rattle.sr_dsr.specs.Gives.{framed, MakesLine}
use Rattle.sr_dsr.proofs.FrameLemmas.{refuses_same, made_refused}
use Rattle.sr_dsr.proofs.reader.LineReader.next.Goals as goal

pub returns-in-Ok-None-clause-line : goal.returns-in-Ok-None-clause-line
returns-in-Ok-None-clause-line g c = λ (k : Contents) h.
    let read : line_in c.self.inside.form c.args.limits.now (tokens_left c.self.inside.form 1 0 c.self.inside.reader k) ≡ reads None (tokens_left c.self.inside.form 1 0 c.read_line.new.reader k) =
    rw c.in-Ok-None.field-0-is at c.in-Ok-None.ensures.frame k h in
    rw (← c.self.view_is) read

pub returns-in-Err-make_line-clause-line : goal.returns-in-Err-make_line-clause-line
returns-in-Err-make_line-clause-line g c = λ (k : Contents) h.
    let read : line_in c.self.inside.form c.args.limits.now (tokens_left c.self.inside.form 1 0 c.self.inside.reader k)
    ≡ framed c.in-Ok-Some.frame c.read_line.new.lits (tokens_left c.self.inside.form 1 0 c.read_line.new.reader k) = rw c.in-Ok-Some.field-0-is at c.in-Ok-Some.ensures.frame k h in
    let makes : MakesLine c.in-Ok-Some.frame c.read_line.new.lits (Err c.in-Err-make_line.error) = subst (λ lits. MakesLine c.in-Ok-Some.frame lits (Err c.in-Err-make_line.error)) c.replace-written.ensures.value c.in-Err-make_line.ensures.line in
    rw (← c.self.view_is) (refuses_same c.in-Err-make_line.error _ _ read (made_refused c.in-Ok-Some.frame c.read_line.new.lits _ c.in-Err-make_line.error makes))

pub returns-clause-line : goal.returns-clause-line
returns-clause-line g c = λ (k : Contents) h.
    let read : line_in c.self.inside.form c.args.limits.now (tokens_left c.self.inside.form 1 0 c.self.inside.reader k)
    ≡ framed c.in-Ok-Some.frame c.read_line.new.lits (tokens_left c.self.inside.form 1 0 c.read_line.new.reader k) = rw c.in-Ok-Some.field-0-is at c.in-Ok-Some.ensures.frame k h in
    let makes : MakesLine c.in-Ok-Some.frame c.read_line.new.lits (Ok c.in-Ok.line) = subst (λ lits. MakesLine c.in-Ok-Some.frame lits (Ok c.in-Ok.line)) c.replace-written.ensures.value c.in-Ok.ensures.line in
    rw (← c.self.view_is) (read ∙ makes (tokens_left c.self.inside.form 1 0 c.read_line.new.reader k))
