use Rattle.std.proofs.Common.{◌≡◌, ◌∙◌, subst, cond, true, List}
use Rattle.sr_base.specs.Literal.{Literal, complement, has}
use Rattle.sr_watch.specs.State.{lits_at}
use Rattle.sr_watch.specs.Marks.{joined, marked}
use Rattle.sr_watch.specs.Collecting.{Awaits}
use Rattle.sr_watch.proofs.Collecting.{listed_push, left_of, left_push}
use Rattle.sr_watch.proofs.Marking.{cell_lits}
use Rattle.sr_watch.proofs.needed.list.Goals as goal

pub returns-in_err-enqueue-clause-left : goal.returns-in_err-enqueue-clause-left
returns-in_err-enqueue-clause-left g c = rw c.in_ok-push.ensures.ok (left_push (joined c.args.trail.now c.args.memory.now) c.args.below c.args.at c.args.chain.now c.args.needed.now.marks c.args.needed.now.queue c.requires.attached c.requires.listed)

pub returns-clause-listed : goal.returns-clause-listed
returns-clause-listed g c =
    let lits : c.lits-clause.result.now ≡ lits_at (joined c.args.trail.now c.args.memory.now) c.args.at = c.lits-clause.ensures.value ∙ cell_lits c.args.trail.now c.args.memory.now c.args.at in
    rw c.in_ok-push.ensures.ok (listed_push (joined c.args.trail.now c.args.memory.now) c.args.below c.args.at c.args.chain.now c.args.needed.now.marks c.mark.new.self c.args.needed.now.queue c.enqueue.new.queue c.requires.sound c.requires.attached c.requires.below c.requires.listed c.mark.ensures.size
    (λ l. subst (λ (x : List Literal). marked c.mark.new.self l ≡ cond (has (complement l) x) true (marked c.args.needed.now.marks l)) lits (c.mark.ensures.marks l)) c.enqueue.ensures.keeps
    (subst (λ (x : List Literal). (l : Literal) → has (complement l) x ≡ true → Awaits c.args.trail.now.lits c.args.needed.now.marks c.args.below c.enqueue.new.queue l) lits c.in_ok-enqueue.ensures.ok))

pub returns-clause-left : goal.returns-clause-left
returns-clause-left g c = left_of (joined c.args.trail.now c.args.memory.now) c.args.below c.push.new.self c.mark.new.self c.enqueue.new.queue (returns-clause-listed g c)
