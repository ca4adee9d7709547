use Rattle.std.proofs.Common.{inr}
use Rattle.sr_desk.proofs.ReaderLemmas.{Next-filled, Next-taken, Reads-taken, Reads-trans}
use Rattle.sr_desk.proofs.reader.ByteReader.next_read.Goals as goal

pub returns-clause-next : goal.returns-clause-next
returns-clause-next g c =
    let filled = c.in_ok-ready.ensures.ok in
    let stands = c.in_ok-ready.ensures.reads.stands (cc) in
    Next-filled c.args.self.now c.ready.new.self c.take.new.self (g.D.Desk.outside c.ready.new.desk) c.take.result filled.same
    (Next-taken c.ready.new.self c.take.new.self (g.D.Desk.outside c.ready.new.desk) c.take.result stands filled.ready c.take.ensures.takes).0

pub returns-clause-reads : goal.returns-clause-reads
returns-clause-reads g c =
    let filled = c.in_ok-ready.ensures.ok in
    let stands = c.in_ok-ready.ensures.reads.stands (cc) in
    Reads-trans c.in_ok-ready.ensures.reads (Reads-taken c.ready.new.self c.take.new.self (g.D.Desk.outside c.ready.new.desk) c.take.result c.take.ensures.same
    (Next-taken c.ready.new.self c.take.new.self (g.D.Desk.outside c.ready.new.desk) c.take.result stands filled.ready c.take.ensures.takes).1 c.take.ensures.takes)

pub returns-clause-again : goal.returns-clause-again
returns-clause-again g c = λ e.
    let kept = c.in_ok-ready.ensures.kept (inr e) in
    rw (← kept.1) (c.take.ensures.again (rw kept.1 e))
