use Rattle.std.proofs.Common.{arith}
use Rattle.sr_watch.proofs.Tables.{in_list}
use Rattle.sr_watch.proofs.Choosing.{absent_less, open_watches, first_watch, second_watch}
use Rattle.sr_base.specs.Literal.{complement}
use Rattle.sr_watch.proofs.attaching.open_length.Goals as goal

pub open_for-one-requires : goal.open_for-one-requires
open_for-one-requires c = c.requires.within c.index-clause-0.result (in_list c.args.clause.now 0 c.index-clause-0.result (let t = c.if-clause-lt2.false in omega (arith, t)) c.index-clause-0.is)

pub open_for-two-requires : goal.open_for-two-requires
open_for-two-requires c = c.requires.within c.index-clause-1.result (in_list c.args.clause.now 1 c.index-clause-1.result (let t = c.if-clause-lt2.false in omega (arith, t)) c.index-clause-1.is)

pub returns-then-one-two-clause-open_here : goal.returns-then-one-two-clause-open_here
returns-then-one-two-clause-open_here c = open_watches c.args.clause.now c.args.trail.now.lits c.index-clause-0.result c.index-clause-1.result c.open_for-one.result (let t = c.if-clause-lt2.false in omega (arith, t)) c.index-clause-0.is c.index-clause-1.is c.open_for-one.ensures.open_here
    (absent_less c.open_for-one.result c.open_for-two.result c.args.trail.now.lits (complement c.index-clause-1.result) (omega (arith, c.if-one-two.true)) c.open_for-two.ensures.open_here)

pub returns-else-one-two-clause-open_here : goal.returns-else-one-two-clause-open_here
returns-else-one-two-clause-open_here c = open_watches c.args.clause.now c.args.trail.now.lits c.index-clause-0.result c.index-clause-1.result c.open_for-two.result (let t = c.if-clause-lt2.false in omega (arith, t)) c.index-clause-0.is c.index-clause-1.is
    (absent_less c.open_for-two.result c.open_for-one.result c.args.trail.now.lits (complement c.index-clause-0.result) (omega (arith, c.if-one-two.false)) c.open_for-one.ensures.open_here) c.open_for-two.ensures.open_here

pub returns-then-one-two-clause-most : goal.returns-then-one-two-clause-most
returns-then-one-two-clause-most c long lt = record { watch = c.index-clause-0.result; watched = first_watch c.args.clause.now c.index-clause-0.result long c.index-clause-0.is; is_false = c.open_for-one.ensures.most lt }

pub returns-else-one-two-clause-most : goal.returns-else-one-two-clause-most
returns-else-one-two-clause-most c long lt = record { watch = c.index-clause-1.result; watched = second_watch c.args.clause.now c.index-clause-1.result long c.index-clause-1.is; is_false = c.open_for-two.ensures.most lt }
