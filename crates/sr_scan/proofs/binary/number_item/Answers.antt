use Rattle.std.proofs.Common.{refl}
use Rattle.sr_base.specs.Contents.{Contents}
use Rattle.sr_scan.proofs.BinaryLemmas.{number-value, number-long, number-limit, number-fault, number-end}
use Rattle.sr_scan.proofs.binary.number_item.Goals as goal

pub returns-in-Ok-clause-token : goal.returns-in-Ok-clause-token
returns-in-Ok-clause-token g c = λ (k : Contents) h.
    rw (c.number_token.ensures, c.place-place.ensures.value) (number-value c.args.reader.now c.read_value.new.reader k c.in-Ok.value (c.in-Ok.ensures.value k h))

pub returns-in-Err-Fault-clause-token : goal.returns-in-Err-Fault-clause-token
returns-in-Err-Fault-clause-token g c = λ (k : Contents) h. number-fault c.args.reader.now c.read_value.new.reader k (rw c.in-Err-Fault.field-0-is at c.in-Err-Fault.ensures.value k h)

pub returns-in-Err-Limit-clause-token : goal.returns-in-Err-Limit-clause-token
returns-in-Err-Limit-clause-token g c = λ (k : Contents) h. number-limit c.args.reader.now c.read_value.new.reader k (rw c.in-Err-Limit.field-0-is at c.in-Err-Limit.ensures.value k h)

pub returns-in-Err-Long-clause-token : goal.returns-in-Err-Long-clause-token
returns-in-Err-Long-clause-token g c = λ (k : Contents) h.
    rw c.place-place.ensures.value (number-long c.args.reader.now c.read_value.new.reader k (rw c.in-Err-Long.field-0-is at c.in-Err-Long.ensures.value k h))

pub returns-in-Err-Ends-clause-token : goal.returns-in-Err-Ends-clause-token
returns-in-Err-Ends-clause-token g c = λ (k : Contents) h.
    rw (c.ended.ensures, c.place-place.ensures.value, c.place.ensures.value) (number-end c.args.reader.now c.read_value.new.reader k (rw c.in-Err-Ends.field-0-is at c.in-Err-Ends.ensures.value k h))
