use Rattle.std.proofs.Common.{◌≡◌, ◌∙◌, Some, None}
use Rattle.sr_base.specs.Contents.{Contents}
use Rattle.sr_model.specs.LsrBinary.{item_in}
use Rattle.sr_model.specs.Reading.{reads}
use Rattle.sr_scan.specs.Left.{tokens_left}
use Rattle.sr_lsr.specs.Frames.{framed}
use Rattle.sr_lsr.proofs.BeginLemmas.{refuses_same, made_refused}
use Rattle.sr_lsr.proofs.reader.ItemReader.next.Goals as goal

pub returns-in-Ok-None-clause-item : goal.returns-in-Ok-None-clause-item
returns-in-Ok-None-clause-item g c = λ (k : Contents) h.
    let read : item_in c.self.inside.form c.args.limits.now (tokens_left c.self.inside.form 2 0 c.self.inside.reader k) ≡ reads None (tokens_left c.self.inside.form 2 0 c.read_item.new.reader k) =
    rw c.in-Ok-None.field-0-is at c.in-Ok-None.ensures.item k h in
    rw (← c.self.view_is) read

pub returns-in-Err-make_item-clause-item : goal.returns-in-Err-make_item-clause-item
returns-in-Err-make_item-clause-item g c = λ (k : Contents) h.
    let read : item_in c.self.inside.form c.args.limits.now (tokens_left c.self.inside.form 2 0 c.self.inside.reader k)
    ≡ framed c.in-Ok-Some.frame c.read_item.new.lists (tokens_left c.self.inside.form 2 0 c.read_item.new.reader k) = rw c.in-Ok-Some.field-0-is at c.in-Ok-Some.ensures.item k h in
    rw (← c.self.view_is) (refuses_same c.in-Err-make_item.error _ _ read (made_refused c.in-Ok-Some.frame c.read_item.new.lists _ c.in-Err-make_item.error c.in-Err-make_item.ensures.item))

pub returns-clause-item : goal.returns-clause-item
returns-clause-item g c = λ (k : Contents) h.
    let read : item_in c.self.inside.form c.args.limits.now (tokens_left c.self.inside.form 2 0 c.self.inside.reader k)
    ≡ framed c.in-Ok-Some.frame c.read_item.new.lists (tokens_left c.self.inside.form 2 0 c.read_item.new.reader k) = rw c.in-Ok-Some.field-0-is at c.in-Ok-Some.ensures.item k h in
    rw (← c.self.view_is) (read ∙ c.in-Ok.ensures.item (tokens_left c.self.inside.form 2 0 c.read_item.new.reader k))
