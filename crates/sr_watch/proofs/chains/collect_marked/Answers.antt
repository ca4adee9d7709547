use Rattle.std.proofs.Common.{refl, Result, Ok, Err, OnOk}
use Rattle.sr_watch.specs.Marks.{joined}
use Rattle.sr_watch.specs.Collecting.{IsCollecting}
use Rattle.sr_watch.proofs.Leaning.{collect_first, collected}
use Rattle.sr_watch.proofs.chains.collect_marked.Goals as goal

on_ok : {T E P Q : Type 0} (r : Result T E) → (P → Q) → OnOk r P → OnOk r Q
on_ok (Ok x) f h = f h
on_ok (Err e) f h = tt

pub returns-clause-ok : goal.returns-clause-ok
returns-clause-ok g c =
    let begun : IsCollecting (joined c.args.trail.now c.args.memory.now) c.args.last c.args.end c.list.new.chain = rw (c.in_ok-list.ensures.ok, c.requires.empty) (collect_first (joined c.args.trail.now c.args.memory.now) c.args.last c.args.end c.requires.ends) in
    on_ok c.collect_below.result (λ k. collected (joined c.args.trail.now c.args.memory.now) c.args.last 0 c.collect_below.new.chain refl c.requires.ends.no_pair (k c.args.last (c.in_ok-collect_above.ensures.ok c.args.last begun))) c.collect_below.ensures.ok
