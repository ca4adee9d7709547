use Rattle.std.proofs.Common.{◌≡◌, ◌<◌, ◌≤◌, false, arith, length}
use Rattle.sr_base.specs.Literal.{complement, has}
use Rattle.sr_watch.specs.State.{lit_at, assumed}
use Rattle.sr_watch.specs.Marks.{joined}
use Rattle.sr_watch.specs.Queued.{NoneBelow, IsLastBelow}
use Rattle.sr_watch.specs.Running.{IsUsed, IsSpare}
use Rattle.sr_watch.proofs.Collecting.{collect_next, collect_rest, listed_next}
use Rattle.sr_watch.proofs.Leaning.{collect_used, collect_spare}
use Rattle.sr_watch.proofs.chains.collect_below.Goals as goal

pub loop-next-preserved-in-Continue-1 : goal.loop-next-preserved-in-Continue-1
loop-next-preserved-in-Continue-1 g c =
    let p : IsLastBelow c.loop-next.place c.loop-next.needed.queue c.next_below.new.self c.in-Some.next = c.in-Some.ensures in
    let le : c.loop-next.place ≤ length c.args.trail.now.lits = omega (arith, c.loop-next.invariant.below, c.requires.base) in
    let lt : c.in-Some.next < length c.args.trail.now.lits = omega (arith, le, p.below) in
    let used : IsUsed (joined c.args.trail.now c.args.memory.now) c.in-Some.next c.loop-next.chain c.in-Some-used_reason.reason = rw (← c.as_slice.ensures) c.in-Some-used_reason.ensures in
    let free : has (complement (lit_at (joined c.args.trail.now c.args.memory.now) c.in-Some.next)) (assumed (joined c.args.trail.now c.args.memory.now)) ≡ false = c.requires.no_clash c.in-Some.next (omega (arith, c.loop-next.invariant.below, p.below)) used.derived in
    record {
      below = omega (arith, c.loop-next.invariant.below, p.below);
      collecting = λ at k. rw c.in_ok-list.ensures.ok (collect_used (joined c.args.trail.now c.args.memory.now) at c.in-Some.next c.loop-next.chain c.in-Some-used_reason.reason c.requires.sound lt free used
          (collect_next (joined c.args.trail.now c.args.memory.now) at c.loop-next.place c.in-Some.next c.loop-next.chain c.loop-next.needed.queue c.next_below.new.self c.requires.sound le c.loop-next.invariant.listed.queued p (c.loop-next.invariant.collecting at k)));
      listed = c.in_ok-list.ensures.listed;
    }

pub loop-next-preserved : goal.loop-next-preserved
loop-next-preserved g c =
    let p : IsLastBelow c.loop-next.place c.loop-next.needed.queue c.next_below.new.self c.in-Some.next = c.in-Some.ensures in
    let le : c.loop-next.place ≤ length c.args.trail.now.lits = omega (arith, c.loop-next.invariant.below, c.requires.base) in
    let lt : c.in-Some.next < length c.args.trail.now.lits = omega (arith, le, p.below) in
    let spare : IsSpare (joined c.args.trail.now c.args.memory.now) c.in-Some.next c.loop-next.chain = rw (← c.as_slice.ensures) c.in_default-used_reason.ensures in
    record {
      below = omega (arith, c.loop-next.invariant.below, p.below);
      collecting = λ at k. collect_spare (joined c.args.trail.now c.args.memory.now) at c.in-Some.next c.loop-next.chain c.requires.sound lt spare
          (collect_next (joined c.args.trail.now c.args.memory.now) at c.loop-next.place c.in-Some.next c.loop-next.chain c.loop-next.needed.queue c.next_below.new.self c.requires.sound le c.loop-next.invariant.listed.queued p (c.loop-next.invariant.collecting at k));
      listed = listed_next (joined c.args.trail.now c.args.memory.now) c.loop-next.place c.in-Some.next c.loop-next.chain c.loop-next.needed.marks c.loop-next.needed.queue c.next_below.new.self p c.loop-next.invariant.listed;
    }

pub returns-clause-ok : goal.returns-clause-ok
returns-clause-ok g c = λ at k.
    let none : NoneBelow c.loop-next.place c.loop-next.needed.queue = c.in_default.ensures in
    collect_rest (joined c.args.trail.now c.args.memory.now) at c.loop-next.place c.loop-next.chain c.loop-next.needed.queue c.requires.sound (omega (arith, c.loop-next.invariant.below, c.requires.base)) c.loop-next.invariant.listed.queued none (c.loop-next.invariant.collecting at k)
