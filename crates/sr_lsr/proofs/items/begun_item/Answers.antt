use Rattle.sr_base.specs.Contents.{Contents}
use Rattle.sr_lsr.proofs.items.begun_item.Goals as goal

pub returns-in-Text-clause-item : goal.returns-in-Text-clause-item
returns-in-Text-clause-item g c = λ (k : Contents) h. rw c.in-Text.is (c.text_item.ensures.item k h)

pub returns-in-Binary-clause-item : goal.returns-in-Binary-clause-item
returns-in-Binary-clause-item g c = λ (k : Contents) h. rw c.in-Binary.is (c.binary_item.ensures.item k h)
