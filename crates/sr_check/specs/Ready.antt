-- What stands between two steps.
use Rattle.std.specs.Prelude.{◌≡◌, []}
use Rattle.sr_check.specs.declared.meeting.Scratch.{Scratch}
use Rattle.sr_check.specs.Indexing.{IsClear}

-- no literal is on the trail, and no group is led to
abbrev pub IsReady : Scratch → Type 0
IsReady s = (s.trail.lits ≡ []) × IsClear s.index
