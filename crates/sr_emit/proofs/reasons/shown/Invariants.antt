use Rattle.std.proofs.Common.{◌≡◌, take}
use Rattle.sr_emit.specs.Reasons.{shown}
use Rattle.sr_emit.proofs.reasons.shown.Given as goal

abbrev pub invariant-loop-byte : goal.invariant-loop-byte
invariant-loop-byte l = l.bytes ≡ shown (take l.byte-index l.name)
