use Rattle.sr_desk.proofs.ReaderLemmas.{takes_byte, takes_limit}
use Rattle.sr_desk.proofs.reader.ByteReader.take.Goals as goal

pub returns-then-self-clause-takes : goal.returns-then-self-clause-takes
returns-then-self-clause-takes c = takes_byte c.self.inside c.args.self.now c.index-byte.result.now c.self.view_is c.self.invariant c.if-self.true c.index-byte.ensures

pub returns-then-self-2-clause-takes : goal.returns-then-self-2-clause-takes
returns-then-self-2-clause-takes c = takes_limit c.self.inside c.args.self.now c.self.view_is c.self.invariant c.if-self.false c.if-self-2.true
