use Rattle.std.proofs.Common.{◌≡◌, take}
use Rattle.sr_base.specs.Literal.{compl}
use Rattle.sr_back.specs.Testing.{assuming_all}
use Rattle.sr_back.proofs.testing.assume_complements.Given as goal

abbrev pub invariant-loop-l : goal.invariant-loop-l
invariant-loop-l g l = g.L.Loaded.state l.loaded ≡ assuming_all (g.L.Loaded.state l.fn.loaded) (compl (take l.l-index l.lits))
