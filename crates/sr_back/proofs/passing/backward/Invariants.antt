use Rattle.std.proofs.Common.{◌≡◌, [], length}
use Rattle.sr_back.specs.Citing.{KeepsIndex}
use Rattle.sr_back.specs.Testing.{steps_in}
use Rattle.sr_back.specs.Pass.{KeepsProof}
use Rattle.sr_back.specs.Turning.{IsKept}
use Rattle.sr_back.proofs.passing.backward.Given as goal

abbrev pub invariant-lines : goal.invariant-lines
invariant-lines g l = record {
  proof : KeepsProof (g.L.Loaded.state l.fn.loaded) (g.L.Loaded.state l.loaded);
  kept : IsKept (g.L.Loaded.state l.loaded) (steps_in (g.L.Loaded.state l.loaded) l.steps);
  index : KeepsIndex (g.L.Loaded.state l.loaded) l.index;
  assumed : (g.L.Loaded.state l.loaded).assumed ≡ [];
}

abbrev pub decreases-lines : goal.decreases-lines
decreases-lines g l = length (g.L.Loaded.state l.loaded).standing
