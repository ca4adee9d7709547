use Rattle.std.proofs.Common.{◌≡◌, ◌<◌, ◌-◌, suc, false, arith, length, subst}
use Rattle.sr_base.specs.Literal.{complement, has}
use Rattle.sr_watch.specs.State.{lit_at, assumed}
use Rattle.sr_watch.specs.Marks.{joined}
use Rattle.sr_watch.specs.Running.{IsUsed, IsSpare}
use Rattle.sr_watch.specs.Collecting.{IsCollecting}
use Rattle.sr_watch.proofs.Leaning.{collect_used, collect_spare}
use Rattle.sr_watch.proofs.chains.collect_above.Goals as goal

pub loop-place-preserved-in-Continue-1 : goal.loop-place-preserved-in-Continue-1
loop-place-preserved-in-Continue-1 g c =
    let back : suc (c.loop-place.place - 1) ≡ c.loop-place.place = omega arith in
    let lt : c.loop-place.place - 1 < length c.args.trail.now.lits = omega (arith, c.loop-place.invariant.below, c.requires.end) in
    let used : IsUsed (joined c.args.trail.now c.args.memory.now) (c.loop-place.place - 1) c.loop-place.chain c.in-Some.reason = rw (← c.as_slice.ensures) c.in-Some.ensures in
    let free : has (complement (lit_at (joined c.args.trail.now c.args.memory.now) (c.loop-place.place - 1))) (assumed (joined c.args.trail.now c.args.memory.now)) ≡ false = c.requires.no_clash (c.loop-place.place - 1) (omega (arith, c.loop-place.invariant.below)) used.derived in
    record {
      above = omega arith;
      below = omega (arith, c.loop-place.invariant.below);
      collecting = λ at k. rw c.in_ok-list.ensures.ok (collect_used (joined c.args.trail.now c.args.memory.now) at (c.loop-place.place - 1) c.loop-place.chain c.in-Some.reason c.requires.sound lt free used (rw back (c.loop-place.invariant.collecting at k)));
      listed = c.in_ok-list.ensures.listed;
    }

pub loop-place-preserved : goal.loop-place-preserved
loop-place-preserved g c =
    let back : suc (c.loop-place.place - 1) ≡ c.loop-place.place = omega arith in
    let lt : c.loop-place.place - 1 < length c.args.trail.now.lits = omega (arith, c.loop-place.invariant.below, c.requires.end) in
    let spare : IsSpare (joined c.args.trail.now c.args.memory.now) (c.loop-place.place - 1) c.loop-place.chain = rw (← c.as_slice.ensures) c.in_default.ensures in
    record {
      above = omega arith;
      below = omega (arith, c.loop-place.invariant.below);
      collecting = λ at k. collect_spare (joined c.args.trail.now c.args.memory.now) at (c.loop-place.place - 1) c.loop-place.chain c.requires.sound lt spare (rw back (c.loop-place.invariant.collecting at k));
      listed = c.loop-place.invariant.listed;
    }

pub returns-clause-ok : goal.returns-clause-ok
returns-clause-ok g c = λ at k.
    let is : c.loop-place.place ≡ c.args.base = omega (arith, c.loop-place.invariant.above) in
    subst (λ n. IsCollecting (joined c.args.trail.now c.args.memory.now) at n c.loop-place.chain) is (c.loop-place.invariant.collecting at k)
