use Rattle.std.proofs.Common.{arith, ◌-◌, ◌∙◌, ap, length, false}
use Rattle.sr_base.specs.Literal.{literal_code}
use Rattle.std.proofs.lemmas.List.{length-set}
use Rattle.sr_check.proofs.Trailing.{undone_within, undone_new, undone_old}
use Rattle.sr_check.proofs.trail.undo.Goals as goal

pub unset-requires : goal.unset-requires
unset-requires c = rw c.neg.ensures.value (undone_within c.loop-left.table.items c.args.entries.now c.loop-left.left (c.loop-left.left - 1) c.index-entries-left.result (omega arith) c.loop-left.invariant.high c.index-entries-left.is c.loop-left.invariant.trail)

pub loop-left-preserved-then-added : goal.loop-left-preserved-then-added
loop-left-preserved-then-added c = record {
  low = omega arith;
  high = omega arith;
  trail = rw (c.unset.ensures, c.neg.ensures.value) (undone_new c.loop-left.table.items c.args.entries.now c.loop-left.left (c.loop-left.left - 1) c.index-entries-left.result (omega arith) c.loop-left.invariant.high c.index-entries-left.is c.loop-left.invariant.trail c.requires.new c.if-added.true);
  room = ap length c.unset.ensures ∙ length-set c.loop-left.table.items (literal_code c.neg.result) false ∙ c.loop-left.invariant.room;
}

pub loop-left-preserved : goal.loop-left-preserved
loop-left-preserved c = record {
  low = omega arith;
  high = omega arith;
  trail = undone_old c.loop-left.table.items c.args.entries.now c.loop-left.left (c.loop-left.left - 1) c.index-entries-left.result (omega arith) c.loop-left.invariant.high c.index-entries-left.is c.loop-left.invariant.trail c.requires.new c.if-added.false;
  room = c.loop-left.invariant.room;
}
