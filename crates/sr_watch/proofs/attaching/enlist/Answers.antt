use Rattle.std.proofs.Common.{◌<◌, refl, subst, arith, length}
use Rattle.sr_lists.specs.Family.{IsPushed}
use Rattle.sr_watch.specs.Watching.{key_of}
use Rattle.sr_watch.proofs.Tables.{in_list}
use Rattle.sr_watch.proofs.Enlisting.{enlisted_long, enlisted_short, one_fine, empty_fine, first_variable}
use Rattle.sr_watch.proofs.attaching.enlist.Goals as goal

pub push-requires-clause-key : goal.push-requires-clause-key
push-requires-clause-key c = omega (arith, c.key.ensures, (c.requires.keys c.index-clause-0.result (in_list c.args.clause.now 0 c.index-clause-0.result (let t = c.if-clause-ge2.true in omega (arith, t)) c.index-clause-0.is) (omega (arith, c.var-var.ensures.low, c.var-var.ensures.value))))

pub push-requires-then-clause-ge2-clause-key : goal.push-requires-then-clause-ge2-clause-key
push-requires-then-clause-ge2-clause-key c = omega (arith, c.key-then-clause-ge2.ensures, c.push.ensures.keys, (c.requires.keys c.index-clause-1.result (in_list c.args.clause.now 1 c.index-clause-1.result (let t = c.if-clause-ge2.true in omega (arith, t)) c.index-clause-1.is) (omega (arith, c.var-var-then-clause-ge2.ensures.low, c.var-var-then-clause-ge2.ensures.value))))

pub returns-then-clause-ge2 : goal.returns-then-clause-ge2
returns-then-clause-ge2 c =
    let p : IsPushed c.args.lists.now c.push.new.self (key_of c.index-clause-0.result) (record { blocker = c.index-clause-1.result; at = c.args.at }) = subst (λ k. IsPushed c.args.lists.now c.push.new.self k (record { blocker = c.index-clause-1.result; at = c.args.at })) c.key.ensures c.push.ensures in
    let q : IsPushed c.push.new.self c.push-then-clause-ge2.new.self (key_of c.index-clause-1.result) (record { blocker = c.index-clause-0.result; at = c.args.at }) = subst (λ k. IsPushed c.push.new.self c.push-then-clause-ge2.new.self k (record { blocker = c.index-clause-0.result; at = c.args.at })) c.key-then-clause-ge2.ensures c.push-then-clause-ge2.ensures in
    enlisted_long c.args.lists.now c.push.new.self c.push-then-clause-ge2.new.self c.index-clause-0.result c.index-clause-1.result c.args.clause.now c.args.at (let t = c.if-clause-ge2.true in omega (arith, t)) c.index-clause-0.is c.index-clause-1.is (c.requires.keys c.index-clause-0.result (in_list c.args.clause.now 0 c.index-clause-0.result (let t = c.if-clause-ge2.true in omega (arith, t)) c.index-clause-0.is) (omega (arith, c.var-var.ensures.low, c.var-var.ensures.value))) (c.requires.keys c.index-clause-1.result (in_list c.args.clause.now 1 c.index-clause-1.result (let t = c.if-clause-ge2.true in omega (arith, t)) c.index-clause-1.is) (omega (arith, c.var-var-then-clause-ge2.ensures.low, c.var-var-then-clause-ge2.ensures.value))) c.requires.distinct p q

pub returns-then-clause-eq1 : goal.returns-then-clause-eq1
returns-then-clause-eq1 c = enlisted_short c.args.lists.now c.push-then-clause-eq1.new.self (record { blocker = c.index-clause-0-then-clause-eq1.result; at = c.args.at }) c.args.clause.now c.args.at refl (let t = c.if-clause-eq1.true in omega (arith, t)) c.requires.short_key
    (one_fine c.args.clause.now c.index-clause-0-then-clause-eq1.result c.args.at (let t = c.if-clause-eq1.true in t) c.index-clause-0-then-clause-eq1.is) c.push-then-clause-eq1.ensures

pub returns : goal.returns
returns c =
    let none : length c.args.clause.now < 1 = (let a = c.if-clause-ge2.false in let b = c.if-clause-eq1.false in omega (arith, a, b)) in
    enlisted_short c.args.lists.now c.push-2.new.self (record { blocker = c.from_code-blocker.result; at = c.args.at }) c.args.clause.now c.args.at refl (omega (arith, none)) c.requires.short_key
    (empty_fine c.args.clause.now c.from_code-blocker.result c.args.at none (first_variable c.from_code-blocker.result c.from_code-blocker.ensures)) c.push-2.ensures
