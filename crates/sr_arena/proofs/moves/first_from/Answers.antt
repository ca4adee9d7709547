use Rattle.std.proofs.Common.{ℕ, ◌+◌, ◌-◌, ◌/◌, ◌<◌, arith}
use Rattle.sr_arena.proofs.Moving.{from_any}
use Rattle.sr_arena.proofs.moves.first_from.Goals as goal

pub loop-low-preserved-then-moves-middle : goal.loop-low-preserved-then-moves-middle
loop-low-preserved-then-moves-middle c =
    let middle : ℕ = c.loop-low.low + (c.loop-low.high - c.loop-low.low) / 2 in
    let s = c.loop-low.invariant in
    let in_range : middle < c.loop-low.high = omega (arith, c.loop-low-test.true) in
    record {
      order = omega arith;
      within = s.within;
      below = λ k d lt. omega (arith, c.requires k middle d (omega arith) (omega (arith, s.within)), from_any c.args.moves.now middle d (record { from = 0; to = 0 }) (omega (arith, s.within)), c.if-moves-middle.true);
      left = s.left;
    }

pub loop-low-preserved : goal.loop-low-preserved
loop-low-preserved c =
    let middle : ℕ = c.loop-low.low + (c.loop-low.high - c.loop-low.low) / 2 in
    let s = c.loop-low.invariant in
    let in_range : middle < c.loop-low.high = omega (arith, c.loop-low-test.true) in
    record {
      order = omega arith;
      within = omega (arith, s.within);
      below = s.below;
      left = λ k d le lt. omega (arith, c.requires middle k d le lt, from_any c.args.moves.now middle d (record { from = 0; to = 0 }) (omega (arith, s.within)), c.if-moves-middle.false);
    }
