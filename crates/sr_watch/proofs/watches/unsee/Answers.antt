use Rattle.std.proofs.Common.{◌≡◌, ◌<◌, ◌∙◌, ap, subst, arith, length}
use Rattle.std.specs.Prelude.{IfSome}
use Rattle.sr_lists.specs.Family.{Family, IsEnded}
use Rattle.sr_watch.proofs.Lengths.{same_length}
use Rattle.sr_watch.specs.declared.watches.TheConstants.{SEEN}
use Rattle.sr_watch.proofs.Falls.{none_listed, unseeing_start, unseeing_more, unseeing_over}
use Rattle.sr_watch.proofs.watches.unsee.Goals as goal

pub returns-then-keys-eq0-clause-unseen : goal.returns-then-keys-eq0-clause-unseen
returns-then-keys-eq0-clause-unseen c r =
    let none : length c.args.lists.now.lists ≡ 0 = omega (arith, c.keys.ensures, c.if-keys-eq0.true) in omega (arith, none_listed c.args.lists.now r SEEN none)

pub returns-then-keys-eq0-clause-seen : goal.returns-then-keys-eq0-clause-seen
returns-then-keys-eq0-clause-seen c r = none_listed c.args.lists.now r SEEN (omega (arith, c.keys.ensures, c.if-keys-eq0.true))

pub loop-watch-init : goal.loop-watch-init
loop-watch-init c =
    let some : 0 < length c.args.lists.now.lists = omega (arith, c.keys.ensures, c.if-keys-eq0.false) in
    unseeing_start c.args.lists.now c.begin.new.self (omega (arith, c.requires.both some)) c.begin.ensures

pub loop-watch-smaller : goal.loop-watch-smaller
loop-watch-smaller c = omega (arith, c.in-Some.ensures.shorter, same_length c.push.new.self.ahead c.next.new.self.ahead c.push.ensures.ahead)

pub loop-watch-preserved : goal.loop-watch-preserved
loop-watch-preserved c =
    let some : 0 < length c.args.lists.now.lists = omega (arith, c.keys.ensures, c.if-keys-eq0.false) in
    unseeing_more c.args.lists.now c.loop-watch.lists c.next.new.self c.push.new.self c.in-Some.watch c.loop-watch.invariant c.in-Some.ensures (omega (arith, c.requires.both some, c.loop-watch.invariant.keys, c.in-Some.ensures.keys)) c.push.ensures

pub returns-clause-literals : goal.returns-clause-literals
returns-clause-literals c =
    let some : 0 < length c.args.lists.now.lists = omega (arith, c.keys.ensures, c.if-keys-eq0.false) in
    let n = c.in_default.ensures in
    let b0 : IsEnded c.next.new.self c.end.new.self SEEN = subst (λ o. IfSome o (λ key. IsEnded c.next.new.self c.end.new.self key)) (ap (λ (f : Family). f.walked) n.1 ∙ c.loop-watch.invariant.at_list) c.end.ensures in
    let b : IsEnded c.loop-watch.lists c.end.new.self SEEN = subst (λ h. IsEnded h c.end.new.self SEEN) n.1 b0 in
    let x = unseeing_over c.args.lists.now c.loop-watch.lists c.end.new.self c.requires.walked c.loop-watch.invariant (omega (arith, c.requires.both some, c.loop-watch.invariant.keys)) n.0 b in
    x.literals

pub returns-clause-tallies : goal.returns-clause-tallies
returns-clause-tallies c =
    let some : 0 < length c.args.lists.now.lists = omega (arith, c.keys.ensures, c.if-keys-eq0.false) in
    let n = c.in_default.ensures in
    let b0 : IsEnded c.next.new.self c.end.new.self SEEN = subst (λ o. IfSome o (λ key. IsEnded c.next.new.self c.end.new.self key)) (ap (λ (f : Family). f.walked) n.1 ∙ c.loop-watch.invariant.at_list) c.end.ensures in
    let b : IsEnded c.loop-watch.lists c.end.new.self SEEN = subst (λ h. IsEnded h c.end.new.self SEEN) n.1 b0 in
    let x = unseeing_over c.args.lists.now c.loop-watch.lists c.end.new.self c.requires.walked c.loop-watch.invariant (omega (arith, c.requires.both some, c.loop-watch.invariant.keys)) n.0 b in
    x.tallies

pub returns-clause-unseen : goal.returns-clause-unseen
returns-clause-unseen c =
    let some : 0 < length c.args.lists.now.lists = omega (arith, c.keys.ensures, c.if-keys-eq0.false) in
    let n = c.in_default.ensures in
    let b0 : IsEnded c.next.new.self c.end.new.self SEEN = subst (λ o. IfSome o (λ key. IsEnded c.next.new.self c.end.new.self key)) (ap (λ (f : Family). f.walked) n.1 ∙ c.loop-watch.invariant.at_list) c.end.ensures in
    let b : IsEnded c.loop-watch.lists c.end.new.self SEEN = subst (λ h. IsEnded h c.end.new.self SEEN) n.1 b0 in
    let x = unseeing_over c.args.lists.now c.loop-watch.lists c.end.new.self c.requires.walked c.loop-watch.invariant (omega (arith, c.requires.both some, c.loop-watch.invariant.keys)) n.0 b in
    x.unseen

pub returns-clause-seen : goal.returns-clause-seen
returns-clause-seen c =
    let some : 0 < length c.args.lists.now.lists = omega (arith, c.keys.ensures, c.if-keys-eq0.false) in
    let n = c.in_default.ensures in
    let b0 : IsEnded c.next.new.self c.end.new.self SEEN = subst (λ o. IfSome o (λ key. IsEnded c.next.new.self c.end.new.self key)) (ap (λ (f : Family). f.walked) n.1 ∙ c.loop-watch.invariant.at_list) c.end.ensures in
    let b : IsEnded c.loop-watch.lists c.end.new.self SEEN = subst (λ h. IsEnded h c.end.new.self SEEN) n.1 b0 in
    let x = unseeing_over c.args.lists.now c.loop-watch.lists c.end.new.self c.requires.walked c.loop-watch.invariant (omega (arith, c.requires.both some, c.loop-watch.invariant.keys)) n.0 b in
    x.seen
