use Rattle.std.proofs.Common.{◌∙◌, sym, ap}
use Rattle.sr_model.specs.Chain.{clause_of}
use Rattle.sr_check.specs.Storage.{Stored}
use Rattle.sr_check.proofs.Storing.{clause_found}
use Rattle.sr_check.proofs.storage.Storage.find_dead.Goals as goal

pub returns-clause-dead : goal.returns-clause-dead
returns-clause-dead c = c.find_dead.ensures.dead c.args.self.now.clauses
    (λ n. ap (λ (s : Stored). clause_of s.clauses n) (sym c.self.view_is) ∙ clause_found c.self.inside.mem c.self.inside.table n c.self.invariant.linked)
