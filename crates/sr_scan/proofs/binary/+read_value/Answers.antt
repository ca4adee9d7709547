use Rattle.std.proofs.Common.{rules, ◌<◌, ◌-◌, arith}
use Rattle.sr_base.specs.Contents.{Contents}
use Rattle.sr_desk.specs.Next.{TakesByte}
use Rattle.sr_scan.proofs.ReadLemmas.{agreed}
use Rattle.sr_scan.proofs.BinaryLemmas.{value-small, value-ok, value-err, below-first, below-more, ten-wide}
use Rattle.sr_scan.proofs.binary.+read_value.Goals as goal

pub returns-then-byte-lt128-clause-value : goal.returns-then-byte-lt128-clause-value
returns-then-byte-lt128-clause-value g t c = λ (k : Contents) h.
    let takes : TakesByte c.args.reader.now c.next.new.self (g.D.Desk.outside c.next.new.desk) c.in-Ok-Some.byte = rw c.in-Ok-Some.field-0-is at c.in-Ok-Some.ensures.next in
    rw c.from.ensures (value-small c.args.reader.now c.next.new.self (g.D.Desk.outside c.next.new.desk) c.in-Ok-Some.byte c.args.most k takes h c.if-most-eq0.false c.if-byte-lt128.true)

pub returns-then-byte-lt128-clause-bound : goal.returns-then-byte-lt128-clause-bound
returns-then-byte-lt128-clause-bound g t c = rw c.from.ensures (below-first c.args.most c.in-Ok-Some.byte c.if-most-eq0.false c.if-byte-lt128.true)

pub overflow_mul-result : goal.overflow_mul-result
overflow_mul-result g t c =
    let wide = ten-wide (c.args.most - 1) c.in-Ok.rest (omega (arith, c.requires.ten)) c.in-Ok.ensures.bound in omega (arith, wide)

pub overflow_add-result : goal.overflow_add-result
overflow_add-result g t c =
    let wide = ten-wide (c.args.most - 1) c.in-Ok.rest (omega (arith, c.requires.ten)) c.in-Ok.ensures.bound in
    let byte : c.in-Ok-Some.byte < 256 = search rules in
    omega (arith, wide, byte, c.from-in-Ok.ensures)

pub returns-in-Ok-clause-value : goal.returns-in-Ok-clause-value
returns-in-Ok-clause-value g t c = λ (k : Contents) h.
    let takes : TakesByte c.args.reader.now c.next.new.self (g.D.Desk.outside c.next.new.desk) c.in-Ok-Some.byte = rw c.in-Ok-Some.field-0-is at c.in-Ok-Some.ensures.next in
    rw c.from-in-Ok.ensures (value-ok c.args.reader.now c.next.new.self c.read_value.new.reader (g.D.Desk.outside c.next.new.desk) c.in-Ok-Some.byte c.args.most c.in-Ok.rest k
    takes (agreed c.in-Ok.ensures.reads h) c.if-most-eq0.false c.if-byte-lt128.false (c.in-Ok.ensures.value k h))

pub returns-in-Ok-clause-bound : goal.returns-in-Ok-clause-bound
returns-in-Ok-clause-bound g t c =
    let byte : c.in-Ok-Some.byte < 256 = search rules in
    rw c.from-in-Ok.ensures (below-more c.args.most c.in-Ok-Some.byte c.in-Ok.rest c.if-most-eq0.false c.if-byte-lt128.false byte c.in-Ok.ensures.bound)

pub returns-in-Err-clause-value : goal.returns-in-Err-clause-value
returns-in-Err-clause-value g t c = λ (k : Contents) h.
    let takes : TakesByte c.args.reader.now c.next.new.self (g.D.Desk.outside c.next.new.desk) c.in-Ok-Some.byte = rw c.in-Ok-Some.field-0-is at c.in-Ok-Some.ensures.next in
    value-err c.args.reader.now c.next.new.self c.read_value.new.reader (g.D.Desk.outside c.next.new.desk) c.in-Ok-Some.byte c.args.most k c.in-Err.stop
    takes (agreed c.in-Err.ensures.reads h) c.if-most-eq0.false c.if-byte-lt128.false (c.in-Err.ensures.value k h)
