use Rattle.std.proofs.Common.{◌+◌, Ok, Some}
use Rattle.sr_desk.specs.Reader.{reader_of}
use Rattle.sr_desk.proofs.ReaderLemmas.{takes_byte, Next-taken, Reads-still, same-taken}
use Rattle.sr_desk.proofs.reader.ByteReader.next.Goals as goal

pub returns-then-self-clause-next : goal.returns-then-self-clause-next
returns-then-self-clause-next g c =
    let taken = takes_byte c.self.inside c.args.self.now c.index-byte.result.now c.self.view_is c.self.invariant c.if-self.true c.index-byte.ensures in
    (Next-taken c.args.self.now (reader_of (record c.self.inside { at = c.self.inside.at + 1 })) (g.D.Desk.outside c.args.desk.now) (Ok (Some c.index-byte.result.now)) c.requires (λ e n. let first = taken.1 in cc) taken).0

pub returns-then-self-clause-reads : goal.returns-then-self-clause-reads
returns-then-self-clause-reads g c =
    let taken = takes_byte c.self.inside c.args.self.now c.index-byte.result.now c.self.view_is c.self.invariant c.if-self.true c.index-byte.ensures in
    Reads-still (same-taken taken) (Next-taken c.args.self.now (reader_of (record c.self.inside { at = c.self.inside.at + 1 })) (g.D.Desk.outside c.args.desk.now) (Ok (Some c.index-byte.result.now)) c.requires (λ e n. let first = taken.1 in cc) taken).1
