use Rattle.sr_base.proofs.Plain.{distinct_same}
use Rattle.sr_cnf.proofs.Plain.{distinct_within}
use Rattle.sr_cnf.proofs.clause.push_clause.Goals as goal

pub returns-then-is_short_clause-clause-ok : goal.returns-then-is_short_clause-clause-ok
returns-then-is_short_clause-clause-ok c = rw (distinct_same c.args.lits.now (c.is_short_clause.ensures c.if-is_short_clause.true)) c.push_lits.ensures.ok

pub push-requires-clause-within : goal.push-requires-clause-within
push-requires-clause-within c = rw c.in_ok-from_lits.ensures (distinct_within c.args.formula.now.vars c.args.lits.now c.requires.within)
