use Rattle.sr_back.proofs.Indexing.{under_reordered}
use Rattle.sr_back.proofs.cited.CitedClauses.enter.Goals as goal

pub returns-in_ok-enter : goal.returns-in_ok-enter
returns-in_ok-enter g c = record {
  built = c.enter.ensures.built;
  told = λ b. c.in_ok-set.ensures.ok;
  kept = λ b. c.enter.ensures.kept;
  under = λ b d f. under_reordered _ c.args.id d c.clause.result.now (c.clause.ensures d f) (c.in_ok-enter.ensures.ok b);
}
