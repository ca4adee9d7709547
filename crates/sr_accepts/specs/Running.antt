-- Two runs: one trims a proof, and one checks what was written.
use Rattle.std.specs.Prelude.{◌≡◌, ◌⊎◌, ◌-◌, ℕ, true, is_some, cond}
use Rattle.sr_base.specs.Limits.{LimitValues}
use Rattle.sr_base.specs.Contents.{Contents, whole}
use Rattle.sr_base.specs.declared.names.Which.TheVariants as which
use Rattle.sr_model.specs.ReadAgain.{AreLimits}
use Rattle.sr_desk.specs.Outside.{Outside, Agrees}
use Rattle.sr_emit.specs.declared.outcome.Outcome.{Outcome}
use Rattle.sr_emit.specs.declared.outcome.Outcome.TheVariants as outcome
use Rattle.sr_trim.specs.Said.{TrimSaid}
use Rattle.sr_cli.specs.Words.{Said, checks, only_reads, trims}
use Rattle.sr_cli.specs.Run.{Runs}

-- the slot of the proof that was written: the last one that was begun, or the one before it where the core is written too
abbrev pub proof_slot : TrimSaid → Outside → ℕ
proof_slot s new = cond (is_some s.core) (new.begun - 2) (new.begun - 1)

-- where a run trims, verifies and was asked for the proof, one that checks the same formula and the bytes that were sent to the
-- proof's file, with the same limits and in the form in which it was written, verifies them too, strictly or not, unless memory
-- runs out or its report can't be printed
abbrev pub TrimThenCheck : Type 0
TrimThenCheck = (lim : LimitValues) (s : TrimSaid) (said : Said) (old new from to : Outside) (o : Outcome) (formula : Contents)
    → AreLimits lim → Runs lim (trims s) old new outcome.Verified → is_some s.lsr ≡ true → Runs lim (only_reads (checks said)) from to o → said.proof_form ≡ s.lsr_form
    → Agrees (new.slot 0) formula → Agrees (to.slot 0) formula → Agrees (to.slot 1) (whole (new.slot (proof_slot s new)).sent)
    → (o ≡ outcome.Verified) ⊎ (o ≡ outcome.NoMemory) ⊎ (o ≡ outcome.SinkFault which.Report)
