use Rattle.std.proofs.Common.{◌∙◌}
use Rattle.sr_base.proofs.Literals.{has_is_any}
use Rattle.sr_base.proofs.literal.has.Goals as goal

pub returns : goal.returns
returns c = c.contains.ensures.value ∙ has_is_any c.args.l c.args.lits.now
