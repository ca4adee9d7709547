use Rattle.sr_desk.proofs.ReaderLemmas.{skips}
use Rattle.sr_desk.proofs.reader.ByteReader.skip.Goals as goal

pub returns : goal.returns
returns c = rw (← c.self.view_is) (skips c.self.inside c.args.count c.self.invariant (rw (← c.self.view_is) at c.requires))
