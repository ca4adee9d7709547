use Rattle.sr_sure.proofs.Never.{never_fails}
use Rattle.sr_sure.proofs.sure.SureDesk.reads_never_fail.Goals as goal

pub returns : goal.returns
returns c = never_fails c.args.self.now
