use Rattle.std.proofs.Common.{◌<◌, sym, ◌∙◌, ap, subst, arith, length}
use Rattle.std.specs.Prelude.{IfSome}
use Rattle.sr_lists.specs.Family.{Family, IsPushed, IsTaken, IsEnded}
use Rattle.sr_watch.proofs.Lengths.{same_length}
use Rattle.sr_arena.specs.Cells.{cell_at}
use Rattle.sr_watch.specs.declared.watches.TheConstants.{UNSEEN}
use Rattle.sr_watch.proofs.Visits.{attached_on}
use Rattle.sr_watch.proofs.OnWalk.{stocked_taken, true_to_clause, includes_kept, held_in_hand}
use Rattle.sr_watch.proofs.Units.{IsSettledAll, IsLooked, short_stuck, blocker_room, settling_start, settling_dropped, settling_own, settling_other, settling_stopped, settling_over, all_settled, never_listed}
use Rattle.sr_watch.proofs.Readings.{mets, hand_short, listed_with, looked_reads, stopped_reads, mets_few}
use Rattle.sr_watch.proofs.settling.settle_units.Goals as goal

pub returns-then-keys-lt2-clause-settled : goal.returns-then-keys-lt2-clause-settled
returns-then-keys-lt2-clause-settled g c = never_listed c.args.core c.args.memory.now c.args.lists.now c.args.trail.now c.args.shade.now c.args.top.now (omega (arith, c.keys.ensures, c.if-keys-lt2.true)) c.requires.sound c.requires.short

pub loop-watch-init : goal.loop-watch-init
loop-watch-init g c = record {
  settling = settling_start c.args.core c.args.memory.now c.args.lists.now c.begin.new.self c.args.trail.now c.args.shade.now c.args.top.now c.requires.sound (omega (arith, c.keys.ensures, c.if-keys-lt2.false)) c.begin.ensures c.requires.stocked c.requires.linked c.requires.shaded c.requires.short;
  ticks = omega arith;
}

pub is_on-requires : goal.is_on-requires
is_on-requires g c =
    let t : IsTaken c.loop-watch.lists c.next.new.self c.in-Some.watch = c.in-Some.ensures in
    let st = stocked_taken c.args.core c.args.memory.now c.loop-watch.lists c.next.new.self c.in-Some.watch t c.loop-watch.invariant.settling.stocked in
    held_in_hand c.args.core c.args.memory.now c.next.new.self c.in-Some.watch c.next.new.self.ahead st

pub settle_short-requires-clause-held : goal.settle_short-requires-clause-held
settle_short-requires-clause-held g c =
    let t : IsTaken c.loop-watch.lists c.next.new.self c.in-Some.watch = c.in-Some.ensures in
    let st = stocked_taken c.args.core c.args.memory.now c.loop-watch.lists c.next.new.self c.in-Some.watch t c.loop-watch.invariant.settling.stocked in
    held_in_hand c.args.core c.args.memory.now c.next.new.self c.in-Some.watch c.next.new.self.ahead st

pub settle_short-requires-clause-attached : goal.settle_short-requires-clause-attached
settle_short-requires-clause-attached g c = attached_on c.args.core c.args.memory.now c.loop-watch.trail c.in-Some.watch.at (sym c.is_on.ensures ∙ c.if-is_on.true)

pub loop-watch-preserved : goal.loop-watch-preserved
loop-watch-preserved g c =
    let t : IsTaken c.loop-watch.lists c.next.new.self c.in-Some.watch = c.in-Some.ensures in
    record {
      settling = settling_dropped c.args.core c.args.memory.now c.args.lists.now c.loop-watch.lists c.next.new.self c.args.trail.now c.loop-watch.trail c.loop-watch.shade c.loop-watch.top c.in-Some.watch t (sym c.is_on.ensures ∙ c.if-is_on.false) c.loop-watch.invariant.settling;
      ticks = omega (arith, c.loop-watch.invariant.ticks);
    }

pub returns-then-settle_short-clause-stocked : goal.returns-then-settle_short-clause-stocked
returns-then-settle_short-clause-stocked g c =
    let t : IsTaken c.loop-watch.lists c.next.new.self c.in-Some.watch = c.in-Some.ensures in
    let lt : UNSEEN < length c.next.new.self.lists = omega (arith, c.keys.ensures, c.if-keys-lt2.false, t.keys, c.loop-watch.invariant.settling.keys) in
    let p : IsPushed c.next.new.self c.keep.new.self UNSEEN c.in-Some.watch = subst (λ o. IfSome o (λ key. IsPushed c.next.new.self c.keep.new.self key c.in-Some.watch)) (t.walked ∙ c.loop-watch.invariant.settling.at_list) c.keep.ensures in
    let b : IsEnded c.keep.new.self c.end.new.self UNSEEN = subst (λ o. IfSome o (λ key. IsEnded c.keep.new.self c.end.new.self key)) (p.walked ∙ t.walked ∙ c.loop-watch.invariant.settling.at_list) c.end.ensures in
    let over : IsSettledAll c.args.core c.args.memory.now c.args.lists.now c.end.new.self c.args.trail.now c.loop-watch.trail c.loop-watch.shade c.loop-watch.top =
    settling_stopped c.args.core c.args.memory.now c.args.lists.now c.loop-watch.lists c.next.new.self c.keep.new.self c.end.new.self c.args.trail.now c.loop-watch.trail c.loop-watch.shade c.loop-watch.top c.in-Some.watch t lt p b c.requires.walked c.loop-watch.invariant.settling in
    over.stocked

pub returns-then-settle_short-clause-linked : goal.returns-then-settle_short-clause-linked
returns-then-settle_short-clause-linked g c =
    let t : IsTaken c.loop-watch.lists c.next.new.self c.in-Some.watch = c.in-Some.ensures in
    let lt : UNSEEN < length c.next.new.self.lists = omega (arith, c.keys.ensures, c.if-keys-lt2.false, t.keys, c.loop-watch.invariant.settling.keys) in
    let p : IsPushed c.next.new.self c.keep.new.self UNSEEN c.in-Some.watch = subst (λ o. IfSome o (λ key. IsPushed c.next.new.self c.keep.new.self key c.in-Some.watch)) (t.walked ∙ c.loop-watch.invariant.settling.at_list) c.keep.ensures in
    let b : IsEnded c.keep.new.self c.end.new.self UNSEEN = subst (λ o. IfSome o (λ key. IsEnded c.keep.new.self c.end.new.self key)) (p.walked ∙ t.walked ∙ c.loop-watch.invariant.settling.at_list) c.end.ensures in
    let over : IsSettledAll c.args.core c.args.memory.now c.args.lists.now c.end.new.self c.args.trail.now c.loop-watch.trail c.loop-watch.shade c.loop-watch.top =
    settling_stopped c.args.core c.args.memory.now c.args.lists.now c.loop-watch.lists c.next.new.self c.keep.new.self c.end.new.self c.args.trail.now c.loop-watch.trail c.loop-watch.shade c.loop-watch.top c.in-Some.watch t lt p b c.requires.walked c.loop-watch.invariant.settling in
    over.linked

pub returns-then-settle_short-clause-short : goal.returns-then-settle_short-clause-short
returns-then-settle_short-clause-short g c =
    let t : IsTaken c.loop-watch.lists c.next.new.self c.in-Some.watch = c.in-Some.ensures in
    let lt : UNSEEN < length c.next.new.self.lists = omega (arith, c.keys.ensures, c.if-keys-lt2.false, t.keys, c.loop-watch.invariant.settling.keys) in
    let p : IsPushed c.next.new.self c.keep.new.self UNSEEN c.in-Some.watch = subst (λ o. IfSome o (λ key. IsPushed c.next.new.self c.keep.new.self key c.in-Some.watch)) (t.walked ∙ c.loop-watch.invariant.settling.at_list) c.keep.ensures in
    let b : IsEnded c.keep.new.self c.end.new.self UNSEEN = subst (λ o. IfSome o (λ key. IsEnded c.keep.new.self c.end.new.self key)) (p.walked ∙ t.walked ∙ c.loop-watch.invariant.settling.at_list) c.end.ensures in
    let over : IsSettledAll c.args.core c.args.memory.now c.args.lists.now c.end.new.self c.args.trail.now c.loop-watch.trail c.loop-watch.shade c.loop-watch.top =
    settling_stopped c.args.core c.args.memory.now c.args.lists.now c.loop-watch.lists c.next.new.self c.keep.new.self c.end.new.self c.args.trail.now c.loop-watch.trail c.loop-watch.shade c.loop-watch.top c.in-Some.watch t lt p b c.requires.walked c.loop-watch.invariant.settling in
    rw (c.settle_short.ensures.falsified c.if-settle_short.true).0 over.short

pub returns-clause-stocked : goal.returns-clause-stocked
returns-clause-stocked g c =
    let n = c.in_default.ensures in
    let b0 : IsEnded c.next.new.self c.end-2.new.self UNSEEN = subst (λ o. IfSome o (λ key. IsEnded c.next.new.self c.end-2.new.self key)) (ap (λ (f : Family). f.walked) n.1 ∙ c.loop-watch.invariant.settling.at_list) c.end-2.ensures in
    let b : IsEnded c.loop-watch.lists c.end-2.new.self UNSEEN = subst (λ h. IsEnded h c.end-2.new.self UNSEEN) n.1 b0 in
    let over : IsSettledAll c.args.core c.args.memory.now c.args.lists.now c.end-2.new.self c.args.trail.now c.loop-watch.trail c.loop-watch.shade c.loop-watch.top =
    settling_over c.args.core c.args.memory.now c.args.lists.now c.loop-watch.lists c.end-2.new.self c.args.trail.now c.loop-watch.trail c.loop-watch.shade c.loop-watch.top c.requires.walked (omega (arith, c.keys.ensures, c.if-keys-lt2.false, c.loop-watch.invariant.settling.keys)) n.0 b c.loop-watch.invariant.settling in
    over.stocked

pub returns-clause-linked : goal.returns-clause-linked
returns-clause-linked g c =
    let n = c.in_default.ensures in
    let b0 : IsEnded c.next.new.self c.end-2.new.self UNSEEN = subst (λ o. IfSome o (λ key. IsEnded c.next.new.self c.end-2.new.self key)) (ap (λ (f : Family). f.walked) n.1 ∙ c.loop-watch.invariant.settling.at_list) c.end-2.ensures in
    let b : IsEnded c.loop-watch.lists c.end-2.new.self UNSEEN = subst (λ h. IsEnded h c.end-2.new.self UNSEEN) n.1 b0 in
    let over : IsSettledAll c.args.core c.args.memory.now c.args.lists.now c.end-2.new.self c.args.trail.now c.loop-watch.trail c.loop-watch.shade c.loop-watch.top =
    settling_over c.args.core c.args.memory.now c.args.lists.now c.loop-watch.lists c.end-2.new.self c.args.trail.now c.loop-watch.trail c.loop-watch.shade c.loop-watch.top c.requires.walked (omega (arith, c.keys.ensures, c.if-keys-lt2.false, c.loop-watch.invariant.settling.keys)) n.0 b c.loop-watch.invariant.settling in
    over.linked

pub returns-clause-short : goal.returns-clause-short
returns-clause-short g c =
    let n = c.in_default.ensures in
    let b0 : IsEnded c.next.new.self c.end-2.new.self UNSEEN = subst (λ o. IfSome o (λ key. IsEnded c.next.new.self c.end-2.new.self key)) (ap (λ (f : Family). f.walked) n.1 ∙ c.loop-watch.invariant.settling.at_list) c.end-2.ensures in
    let b : IsEnded c.loop-watch.lists c.end-2.new.self UNSEEN = subst (λ h. IsEnded h c.end-2.new.self UNSEEN) n.1 b0 in
    let over : IsSettledAll c.args.core c.args.memory.now c.args.lists.now c.end-2.new.self c.args.trail.now c.loop-watch.trail c.loop-watch.shade c.loop-watch.top =
    settling_over c.args.core c.args.memory.now c.args.lists.now c.loop-watch.lists c.end-2.new.self c.args.trail.now c.loop-watch.trail c.loop-watch.shade c.loop-watch.top c.requires.walked (omega (arith, c.keys.ensures, c.if-keys-lt2.false, c.loop-watch.invariant.settling.keys)) n.0 b c.loop-watch.invariant.settling in
    over.short

pub returns-clause-settled : goal.returns-clause-settled
returns-clause-settled g c = all_settled c.args.core c.args.memory.now c.args.lists.now c.loop-watch.lists c.args.trail.now c.loop-watch.trail c.loop-watch.shade c.loop-watch.top c.in_default.ensures.0 c.loop-watch.invariant.settling

pub stands-place-requires : goal.stands-place-requires
stands-place-requires g c =
    let st = stocked_taken c.args.core c.args.memory.now c.loop-watch.lists c.next.new.self c.in-Some.watch c.in-Some.ensures c.loop-watch.invariant.settling.stocked in
    blocker_room c.args.core c.args.memory.now c.next.new.self c.settle_short.new.trail c.in-Some.watch c.next.new.self.ahead c.settle_short.ensures.sound st
    (λ s. c.settle_short.ensures.settled c.if-settle_short.false (short_stuck c.loop-watch.trail.lits (cell_at c.args.memory.now c.in-Some.watch.at).lits s))

pub loop-watch-preserved-then-own : goal.loop-watch-preserved-then-own
loop-watch-preserved-then-own g c =
    let k : IsLooked c.args.core c.args.memory.now c.loop-watch.lists c.next.new.self c.loop-watch.trail c.settle_short.new.trail c.in-Some.watch = record {
      taken = c.in-Some.ensures;
      on = sym c.is_on.ensures ∙ c.if-is_on.true;
      some = c.stands-place.ensures.some;
      grown = c.settle_short.ensures.grown;
      sound = c.settle_short.ensures.sound;
      only = c.settle_short.ensures.only;
      true_now = λ s. c.settle_short.ensures.settled c.if-settle_short.false (short_stuck c.loop-watch.trail.lits (cell_at c.args.memory.now c.in-Some.watch.at).lits s);
    } in
    let own = c.stands-place.ensures.is c.if-own.true in
    record {
      settling = rw c.max.ensures (settling_own c.args.core c.args.memory.now c.args.lists.now c.loop-watch.lists c.next.new.self c.args.trail.now c.loop-watch.trail c.settle_short.new.trail c.loop-watch.shade c.loop-watch.top c.stands-place.result.0 c.in-Some.watch k own.0 own.1 c.loop-watch.invariant.settling);
      ticks = omega (
        arith,
        c.loop-watch.invariant.ticks,
        looked_reads c.args.core c.args.memory.now c.loop-watch.trail.lits c.settle_short.new.trail.lits c.in-Some.watch c.loop-watch.steps c.settle_short.new.steps
            (true_to_clause c.args.core c.args.memory.now c.next.new.self c.in-Some.watch c.next.new.self.ahead (stocked_taken c.args.core c.args.memory.now c.loop-watch.lists c.next.new.self c.in-Some.watch c.in-Some.ensures c.loop-watch.invariant.settling.stocked))
            (includes_kept c.loop-watch.trail.lits c.settle_short.new.trail.lits c.settle_short.ensures.grown.lits) k.on (hand_short c.args.core c.args.memory.now c.loop-watch.trail c.loop-watch.lists c.next.new.self c.in-Some.watch c.loop-watch.invariant.settling.sound c.in-Some.ensures c.loop-watch.invariant.settling.stocked c.loop-watch.invariant.settling.linked (sym c.is_on.ensures ∙ c.if-is_on.true)) (k.true_now (hand_short c.args.core c.args.memory.now c.loop-watch.trail c.loop-watch.lists c.next.new.self c.in-Some.watch c.loop-watch.invariant.settling.sound c.in-Some.ensures c.loop-watch.invariant.settling.stocked c.loop-watch.invariant.settling.linked (sym c.is_on.ensures ∙ c.if-is_on.true))) c.settle_short.ensures.ticks (λ some h. (c.settle_short.ensures.unread some h).0),
      );
    }

pub loop-watch-smaller-then-is_on : goal.loop-watch-smaller-then-is_on
loop-watch-smaller-then-is_on g c =
    omega (arith, c.in-Some.ensures.shorter, same_length c.push.new.self.ahead c.next.new.self.ahead c.push.ensures.ahead)

pub loop-watch-preserved-then-is_on : goal.loop-watch-preserved-then-is_on
loop-watch-preserved-then-is_on g c =
    let t : IsTaken c.loop-watch.lists c.next.new.self c.in-Some.watch = c.in-Some.ensures in
    let k : IsLooked c.args.core c.args.memory.now c.loop-watch.lists c.next.new.self c.loop-watch.trail c.settle_short.new.trail c.in-Some.watch = record {
      taken = t;
      on = sym c.is_on.ensures ∙ c.if-is_on.true;
      some = c.stands-place.ensures.some;
      grown = c.settle_short.ensures.grown;
      sound = c.settle_short.ensures.sound;
      only = c.settle_short.ensures.only;
      true_now = λ s. c.settle_short.ensures.settled c.if-settle_short.false (short_stuck c.loop-watch.trail.lits (cell_at c.args.memory.now c.in-Some.watch.at).lits s);
    } in
    record {
      settling = rw c.max-then-is_on.ensures (settling_other c.args.core c.args.memory.now c.args.lists.now c.loop-watch.lists c.next.new.self c.push.new.self c.args.trail.now c.loop-watch.trail c.settle_short.new.trail c.loop-watch.shade c.loop-watch.top c.stands-place.result.0 c.in-Some.watch k
          (omega (arith, c.keys.ensures, c.if-keys-lt2.false, t.keys, c.loop-watch.invariant.settling.keys)) c.push.ensures c.stands-place.ensures.place (c.stands-place.ensures.not c.if-own.false) c.loop-watch.invariant.settling);
      ticks = omega (
        arith,
        c.loop-watch.invariant.ticks,
        looked_reads c.args.core c.args.memory.now c.loop-watch.trail.lits c.settle_short.new.trail.lits c.in-Some.watch c.loop-watch.steps c.settle_short.new.steps
            (true_to_clause c.args.core c.args.memory.now c.next.new.self c.in-Some.watch c.next.new.self.ahead (stocked_taken c.args.core c.args.memory.now c.loop-watch.lists c.next.new.self c.in-Some.watch c.in-Some.ensures c.loop-watch.invariant.settling.stocked))
            (includes_kept c.loop-watch.trail.lits c.settle_short.new.trail.lits c.settle_short.ensures.grown.lits) k.on (hand_short c.args.core c.args.memory.now c.loop-watch.trail c.loop-watch.lists c.next.new.self c.in-Some.watch c.loop-watch.invariant.settling.sound c.in-Some.ensures c.loop-watch.invariant.settling.stocked c.loop-watch.invariant.settling.linked (sym c.is_on.ensures ∙ c.if-is_on.true)) (k.true_now (hand_short c.args.core c.args.memory.now c.loop-watch.trail c.loop-watch.lists c.next.new.self c.in-Some.watch c.loop-watch.invariant.settling.sound c.in-Some.ensures c.loop-watch.invariant.settling.stocked c.loop-watch.invariant.settling.linked (sym c.is_on.ensures ∙ c.if-is_on.true))) c.settle_short.ensures.ticks (λ some h. (c.settle_short.ensures.unread some h).0),
      );
    }

pub returns-then-settle_short-clause-ticks : goal.returns-then-settle_short-clause-ticks
returns-then-settle_short-clause-ticks g c =
    stopped_reads c.args.core c.args.memory.now c.loop-watch.trail.lits c.in-Some.watch (mets c.args.core c.args.memory.now c.args.trail.now.lits) c.loop-watch.steps c.args.steps.now c.settle_short.new.steps
    (true_to_clause c.args.core c.args.memory.now c.next.new.self c.in-Some.watch c.next.new.self.ahead (stocked_taken c.args.core c.args.memory.now c.loop-watch.lists c.next.new.self c.in-Some.watch c.in-Some.ensures c.loop-watch.invariant.settling.stocked))
    (sym c.is_on.ensures ∙ c.if-is_on.true) (hand_short c.args.core c.args.memory.now c.loop-watch.trail c.loop-watch.lists c.next.new.self c.in-Some.watch c.loop-watch.invariant.settling.sound c.in-Some.ensures c.loop-watch.invariant.settling.stocked c.loop-watch.invariant.settling.linked (sym c.is_on.ensures ∙ c.if-is_on.true)) c.settle_short.ensures.ticks
    (λ some h. let f = (c.settle_short.ensures.unread some h).1 in let t = c.if-settle_short.true in absurd cc) c.loop-watch.invariant.ticks

pub returns-clause-ticks : goal.returns-clause-ticks
returns-clause-ticks g c = omega (arith, c.loop-watch.invariant.ticks, mets_few c.args.core c.args.memory.now c.loop-watch.trail.lits)

pub settle_short-requires-clause-listed : goal.settle_short-requires-clause-listed
settle_short-requires-clause-listed g c some =
    listed_with c.args.memory.now c.in-Some.watch (true_to_clause c.args.core c.args.memory.now c.next.new.self c.in-Some.watch c.next.new.self.ahead (stocked_taken c.args.core c.args.memory.now c.loop-watch.lists c.next.new.self c.in-Some.watch c.in-Some.ensures c.loop-watch.invariant.settling.stocked)) some
