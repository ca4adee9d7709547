-- The report of a verified run.
use Rattle.std.specs.Prelude.{ℕ, ◌≡◌, Bool, true, false, Option, Some, None, List}
use Rattle.sr_emit.specs.declared.counts.Counts.{Counts}
use Rattle.sr_emit.specs.declared.outcome.Outcome.{Outcome}
use Rattle.sr_emit.specs.declared.outcome.Outcome.TheVariants as outcome
use Rattle.sr_emit.specs.Report.{IsVerifiedReport}
use Rattle.sr_trim.specs.declared.reporting.Wanted.{Wanted}

-- the counts that are reported
abbrev pub reported : Bool → Counts → Option Counts
reported true k = Some k
reported false k = None

-- these bytes are the report that is wanted, whatever the files are called
abbrev pub IsWanted : Wanted → Counts → List ℕ → Type 0
IsWanted w k bytes = IsVerifiedReport w.command (reported w.with_counts k) bytes

-- a verified run has its report
abbrev pub HasReport : Wanted → Outcome → Counts → List ℕ → Type 0
HasReport w o k bytes = o ≡ outcome.Verified → IsWanted w k bytes
