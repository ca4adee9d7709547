use Rattle.std.proofs.Common.{◌-◌, ◌∙◌, sym, ap}
use Rattle.sr_model.specs.Assignment.{holds_number}
use Rattle.sr_watch.proofs.Rises.{rising_take, holds_take}
use Rattle.sr_watch.proofs.watches.fall_to.Goals as goal

pub loop-kept-preserved : goal.loop-kept-preserved
loop-kept-preserved c = record {
  rising = rw c.truncate.ensures.items (rising_take 0 (c.len.result - 1) c.loop-kept.kept.items c.loop-kept.invariant.rising);
  fewer = λ n h. c.loop-kept.invariant.fewer n (holds_take n (c.len.result - 1) c.loop-kept.kept.items (ap (holds_number n) (sym c.truncate.ensures.items) ∙ h));
}
