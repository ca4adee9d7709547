use Rattle.std.proofs.Common.{arith, sym}
use Rattle.sr_load.proofs.Forcing.{value_none}
use Rattle.sr_load.proofs.units.value.Goals as goal

pub returns-then-var-vars : goal.returns-then-var-vars
returns-then-var-vars c = sym (value_none c.args.propagator.now.lits c.args.l c.args.propagator.now.vars c.requires.within (omega (arith, c.if-var-vars.true, c.var.ensures.value, c.vars.ensures)))
