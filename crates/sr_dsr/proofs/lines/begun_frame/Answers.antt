use Rattle.sr_base.specs.Contents.{Contents}
use Rattle.sr_dsr.proofs.lines.begun_frame.Goals as goal

pub returns-in-Text-clause-frame : goal.returns-in-Text-clause-frame
returns-in-Text-clause-frame g c = λ (k : Contents) h. rw c.in-Text.is (c.text_frame.ensures.frame k h)

pub returns-in-Binary-clause-frame : goal.returns-in-Binary-clause-frame
returns-in-Binary-clause-frame g c = λ (k : Contents) h. rw c.in-Binary.is (c.binary_frame.ensures.frame k h)
