use Rattle.std.proofs.Common.{ap, subst}
use Rattle.sr_check.specs.Storage.{Stored, HoldsLive}
use Rattle.sr_check.proofs.Storing.{holds_live}
use Rattle.sr_check.proofs.storage.Storage.memory.Goals as goal

pub returns-clause-holds : goal.returns-clause-holds
returns-clause-holds c = subst (HoldsLive c.self.inside.mem) (ap (λ (s : Stored). s.clauses) c.self.view_is) (holds_live c.self.inside.mem c.self.inside.table c.self.invariant.linked)
