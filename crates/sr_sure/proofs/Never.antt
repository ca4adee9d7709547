-- No read fails.
use Rattle.std.proofs.Common.{◌≡◌, ◌≢◌, Bool, true, false, Option, Some, None}
use Rattle.std.specs.Prelude.{if◌then◌else◌}
use Rattle.sr_base.specs.Contents.{Ending, ended, failed}
use Rattle.sr_sure.specs.Sure.{standing_at}
use Rattle.sr_sure.specs.SureView.{outside_of, NeverFails}
use Rattle.sr_sure.specs.declared.sure.SureDesk.{SureDesk}

not_failed : (e : Bool) → (if e then Some ended else None) ≢ Some failed
not_failed true = λ e. cc
not_failed false = λ e. cc

pub never_fails : (d : SureDesk) → NeverFails (outside_of d)
never_fails d = record { ending = λ n. not_failed (standing_at d.slots n).ended; faults = d.sure }
