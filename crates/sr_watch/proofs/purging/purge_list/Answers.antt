use Rattle.std.proofs.Common.{◌∙◌, sym, ap, subst, arith}
use Rattle.std.specs.Prelude.{IfSome}
use Rattle.sr_lists.specs.Family.{Family, IsPushed, IsEnded}
use Rattle.sr_watch.proofs.Lengths.{same_length}
use Rattle.sr_watch.proofs.OnWalk.{stocked_taken, held_in_hand}
use Rattle.sr_watch.proofs.Purges.{purging_start, purging_dropped, purging_kept, purging_over}
use Rattle.sr_watch.proofs.purging.purge_list.Goals as goal

pub loop-watch-init : goal.loop-watch-init
loop-watch-init c = purging_start c.args.core c.args.memory.now c.args.lists.now c.begin.new.self c.args.key c.requires.key c.begin.ensures c.requires.stocked

pub is_on-requires : goal.is_on-requires
is_on-requires c = held_in_hand c.args.core c.args.memory.now c.next.new.self c.in-Some.watch c.next.new.self.ahead (stocked_taken c.args.core c.args.memory.now c.loop-watch.lists c.next.new.self c.in-Some.watch c.in-Some.ensures c.loop-watch.invariant.stocked)

pub loop-watch-preserved-then-not-is_on : goal.loop-watch-preserved-then-not-is_on
loop-watch-preserved-then-not-is_on c = purging_dropped c.args.core c.args.memory.now c.args.lists.now c.loop-watch.lists c.next.new.self c.args.key c.in-Some.watch c.in-Some.ensures (sym c.is_on.ensures ∙ c.if-not-is_on.true) c.loop-watch.invariant

pub loop-watch-smaller : goal.loop-watch-smaller
loop-watch-smaller c =
    let p : IsPushed c.next.new.self c.keep.new.self c.args.key c.in-Some.watch = subst (λ o. IfSome o (λ key. IsPushed c.next.new.self c.keep.new.self key c.in-Some.watch)) (c.in-Some.ensures.walked ∙ c.loop-watch.invariant.at_list) c.keep.ensures in
    omega (arith, c.in-Some.ensures.shorter, same_length c.keep.new.self.ahead c.next.new.self.ahead p.ahead)

pub loop-watch-preserved : goal.loop-watch-preserved
loop-watch-preserved c =
    let p : IsPushed c.next.new.self c.keep.new.self c.args.key c.in-Some.watch = subst (λ o. IfSome o (λ key. IsPushed c.next.new.self c.keep.new.self key c.in-Some.watch)) (c.in-Some.ensures.walked ∙ c.loop-watch.invariant.at_list) c.keep.ensures in
    purging_kept c.args.core c.args.memory.now c.args.lists.now c.loop-watch.lists c.next.new.self c.keep.new.self c.args.key c.in-Some.watch c.in-Some.ensures (omega (arith, c.requires.key, c.in-Some.ensures.keys, c.loop-watch.invariant.keys)) p (sym c.is_on.ensures ∙ c.if-not-is_on.false) c.loop-watch.invariant

pub returns : goal.returns
returns c =
    let n = c.in_default.ensures in
    let b0 : IsEnded c.next.new.self c.end.new.self c.args.key = subst (λ o. IfSome o (λ key. IsEnded c.next.new.self c.end.new.self key)) (ap (λ (f : Family). f.walked) n.1 ∙ c.loop-watch.invariant.at_list) c.end.ensures in
    let b : IsEnded c.loop-watch.lists c.end.new.self c.args.key = subst (λ h. IsEnded h c.end.new.self c.args.key) n.1 b0 in
    purging_over c.args.core c.args.memory.now c.args.lists.now c.loop-watch.lists c.end.new.self c.args.key c.requires.walked (omega (arith, c.requires.key, c.loop-watch.invariant.keys)) n.0 b c.loop-watch.invariant
