use Rattle.std.proofs.Common.{◌≡◌, ◌∷◌, true}
use Rattle.sr_steps.specs.Adding.{first_groups}
use Rattle.sr_trimming.specs.From.{Place}
use Rattle.sr_load.specs.Loaded.{alive_in}
use Rattle.sr_back.specs.Citing.{with_cited, CitedAreAlive, IsIndexed}
use Rattle.sr_back.specs.Testing.{steps_in, IsTested}
use Rattle.sr_back.proofs.Trying.{IsTrying, step_with, pending_count}
use Rattle.sr_back.proofs.groups.find_groups.Given as goal

abbrev pub invariant-tries : goal.invariant-tries
invariant-tries g l = record {
  same : g.L.Loaded.state l.loaded ≡ with_cited (g.L.Loaded.state l.fn.loaded) (g.L.Loaded.state l.loaded).cited;
  alive : CitedAreAlive (g.L.Loaded.state l.loaded);
  index : IsIndexed (g.L.Loaded.state l.loaded) l.index;
  made : l.index.lists.built ≡ true;
  steps : l.steps ≡ step_with l.lemma (first_groups l.steps) ∷ l.fn.steps;
  trying : (p : Place) → IsTested (g.L.Loaded.state l.fn.loaded) l.lemma l.fn.steps p
      → IsTrying (g.L.Loaded.state l.fn.loaded) (g.L.Loaded.state l.loaded) (steps_in (g.L.Loaded.state l.fn.loaded) l.fn.steps) p (first_groups l.steps) l.queue;
}

abbrev pub decreases-tries : goal.decreases-tries
decreases-tries g l = pending_count (g.L.Loaded.state l.loaded).cited l.queue (alive_in (g.L.Loaded.state l.loaded))
