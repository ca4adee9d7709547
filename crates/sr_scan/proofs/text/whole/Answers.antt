use Rattle.std.proofs.Common.{◌-◌}
use Rattle.sr_base.specs.Contents.{Contents}
use Rattle.sr_scan.proofs.text.whole.Goals as goal

pub returns-in-Err-clause-token : goal.returns-in-Err-clause-token
returns-in-Err-clause-token g c = λ (k : Contents) h. rw c.begin.ensures at (c.in-Err.ensures.finishes k h (c.args.reader.now.taken - 1))
