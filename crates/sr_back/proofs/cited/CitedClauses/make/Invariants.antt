use Rattle.sr_back.proofs.Indexing.{IndexedBelow}
use Rattle.sr_back.proofs.cited.CitedClauses.make.Given as goal

abbrev pub invariant-loop-id : goal.invariant-loop-id
invariant-loop-id g l = IndexedBelow (g.L.Loaded.state l.loaded) l.self l.id
