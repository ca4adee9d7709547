-- The status of the process.
use Rattle.std.specs.Prelude.{ℕ, Bool, true, false}
use Rattle.sr_emit.specs.declared.outcome.Outcome.{Outcome}
use Rattle.sr_emit.specs.declared.outcome.Outcome.TheVariants.{Verified, RejectedStep, RejectedLemma, NoEmptyClause, Usage, Text, Limit, SourceFault, SinkFault, NoMemory, Helped}

abbrev pub is_verified : Outcome → Bool
is_verified Verified = true
is_verified _ = false

abbrev pub status_of : Outcome → ℕ
status_of Verified = 0
status_of (RejectedStep id cause) = 1
status_of (RejectedLemma lemma against) = 1
status_of NoEmptyClause = 1
status_of (Usage kind) = 2
status_of (Text which kind place) = 3
status_of (Limit which kind) = 4
status_of (SourceFault which) = 5
status_of (SinkFault which) = 6
status_of NoMemory = 7
status_of (Helped topic) = 0
