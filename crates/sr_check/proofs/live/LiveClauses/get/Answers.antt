use Rattle.std.proofs.Common.{◌∙◌, arith, sym}
use Rattle.sr_check.proofs.Storing.{read_none, read_some}
use Rattle.sr_check.proofs.live.LiveClauses.get.Goals as goal

pub returns-in_default : goal.returns-in_default
returns-in_default c = read_none c.self.inside.mem.now c.self.inside.table.now c.args.id c.args.self.now c.self.view_is c.self.invariant (sym c.get.ensures ∙ sym c.in_default.ensures.value)

pub returns : goal.returns
returns c =
    read_some c.self.inside.mem.now c.self.inside.table.now c.args.id c.in-Some.at c.lits_at.result.now c.args.self.now c.self.view_is c.self.invariant (c.in-Some.ensures.value ∙ c.get.ensures) (omega arith) c.lits_at.ensures
