use Rattle.std.proofs.Common.{◌∙◌, sym}
use Rattle.sr_load.proofs.Asking.{told_distinct, copies_added, copies_kept, no_copy}
use Rattle.sr_load.proofs.proof.copy.Goals as goal

pub add-requires-clause-distinct : goal.add-requires-clause-distinct
add-requires-clause-distinct c = told_distinct c.args.timeline.now c.args.id c.clause.result.now c.requires.number c.clause.ensures

pub returns-in_err-add-clause-copies : goal.returns-in_err-add-clause-copies
returns-in_err-add-clause-copies c = copies_kept _ _ _ c.in_err-add.ensures.err c.requires.copies

pub returns-in_ok-add-clause-copies : goal.returns-in_ok-add-clause-copies
returns-in_ok-add-clause-copies c = copies_added _ _ _ c.args.id c.clause.result.now c.requires.number (no_copy c.has.result _ c.has.ensures.value c.if-not-has.true) c.requires.cited (sym c.is_alive.ensures ∙ c.if-is_alive.true) c.clause.ensures c.in_ok-add.ensures.ok c.requires.copies
