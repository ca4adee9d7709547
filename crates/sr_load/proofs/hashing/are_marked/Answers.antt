use Rattle.std.proofs.Common.{◌∙◌, sym}
use Rattle.sr_load.specs.Buckets.{marked}
use Rattle.sr_load.proofs.Hashes.{all_more, one_fails, all_done}
use Rattle.sr_load.proofs.hashing.are_marked.Goals as goal

pub loop-l-preserved : goal.loop-l-preserved
loop-l-preserved c = all_more (marked c.args.marks.now) c.args.lits.now c.loop-l.l-index c.l-item.result c.loop-l-test.true c.l-item.is c.loop-l.invariant (sym c.is_marked.ensures ∙ c.if-not-is_marked.false)

pub returns-then-not-is_marked : goal.returns-then-not-is_marked
returns-then-not-is_marked c = sym (one_fails (marked c.args.marks.now) c.args.lits.now c.loop-l.l-index c.l-item.result c.loop-l-test.true c.l-item.is (sym c.is_marked.ensures ∙ c.if-not-is_marked.true))

pub returns : goal.returns
returns c = sym (all_done (marked c.args.marks.now) c.args.lits.now c.loop-l.l-index c.loop-l-test.false c.loop-l.invariant)
