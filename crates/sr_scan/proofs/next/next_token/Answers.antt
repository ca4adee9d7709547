use Rattle.std.proofs.Common.{ℕ}
use Rattle.sr_base.specs.Contents.{Contents}
use Rattle.sr_scan.proofs.BinaryStands.{text_front}
use Rattle.sr_scan.proofs.next.next_token.Goals as goal

pub returns-in-Text-clause-token : goal.returns-in-Text-clause-token
returns-in-Text-clause-token g c = λ (lists o : ℕ) start (k : Contents) h.
    rw c.in-Text.is (text_front lists o c.args.reader.now c.text_item.new.reader k c.text_item.result (c.text_item.ensures.token k h))

pub returns-in-Binary-clause-token : goal.returns-in-Binary-clause-token
returns-in-Binary-clause-token g c = λ (lists o : ℕ) start (k : Contents) h. rw c.in-Binary.is (c.binary_item.ensures.token lists o start k h)
