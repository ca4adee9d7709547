use Rattle.std.proofs.Common.{refl}
use Rattle.sr_trim.specs.Passing.{kept_steps}
use Rattle.sr_trim.proofs.Passed.{as_kept}
use Rattle.sr_trim.proofs.writing.write_lsr_asked.Goals as goal

pub returns-in_default : goal.returns-in_default
returns-in_default g c =
    let st = g.L.Loaded.state c.args.loaded.now in
    (kept_steps st c.args.steps.now, as_kept st c.args.steps.now c.requires.writable, rw c.in_default.is (refl, refl))
