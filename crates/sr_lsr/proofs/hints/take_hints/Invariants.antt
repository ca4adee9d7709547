use Rattle.std.proofs.Common.{◌≤◌, ◌-◌, length}
use Rattle.sr_desk.specs.Reader.{skipped}
use Rattle.sr_lsr.specs.Told.{KeepsSmall, TakesHints}
use Rattle.sr_lsr.proofs.hints.take_hints.Given as goal

abbrev pub invariant-hints : goal.invariant-hints
invariant-hints l = record {
  within : l.at ≤ length l.bytes;
  small : KeepsSmall l.fn.hints l.hints l.bound;
  spells : TakesHints l.form l.bound l.fn.reader (skipped l.fn.reader l.at) l.fn.hints l.hints;
}

abbrev pub decreases-hints : goal.decreases-hints
decreases-hints l = length l.bytes - l.at
