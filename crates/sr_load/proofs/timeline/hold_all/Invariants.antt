use Rattle.sr_load.specs.Holding.{HoldsFirst}
use Rattle.sr_load.proofs.timeline.hold_all.Given as goal

abbrev pub invariant-loop-i : goal.invariant-loop-i
invariant-loop-i l = HoldsFirst l.propagator l.refs.items l.flags.items l.formula.clauses l.i
