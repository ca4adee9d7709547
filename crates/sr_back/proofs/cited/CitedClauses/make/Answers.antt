use Rattle.std.proofs.Common.{◌+◌, subst, sym, refl, ◌∙◌, arith}
use Rattle.sr_back.proofs.Indexing.{IndexedBelow, below_first, below_more, below_same, next_within}
use Rattle.sr_back.proofs.cited.CitedClauses.make.Goals as goal
use Rattle.sr_back.proofs.cited.CitedClauses.make.Goals.{then-is_cited+in_ok-enter, else-is_cited}

pub loop-id-init : goal.loop-id-init
loop-id-init g c = below_first (g.L.Loaded.state c.args.loaded.now) _ 1 c.requires.alive refl c.begin.ensures.built c.in_ok-self.ensures.blank

pub enter-requires-clause-high : goal.enter-requires-clause-high
enter-requires-clause-high g c = omega (arith, next_within (g.L.Loaded.state c.args.loaded.now), c.requires.below)

pub loop-id-preserved : goal.loop-id-preserved
loop-id-preserved g c = elim c.if-is_cited.branch [
  | then-is_cited+in_ok-enter w ↦ subst (λ i. IndexedBelow (g.L.Loaded.state c.args.loaded.now) i (c.loop-id.id + 1)) (sym w.self-is)
      (below_more (g.L.Loaded.state c.args.loaded.now) c.loop-id.self w.enter.new.self c.loop-id.id (c.loop-id.id + 1) c.loop-id.invariant (sym c.is_cited.ensures ∙ w.if-is_cited.true) (omega (arith, c.requires.below)) w.in_ok-enter.ensures refl)
  | else-is_cited w ↦ subst (λ i. IndexedBelow (g.L.Loaded.state c.args.loaded.now) i (c.loop-id.id + 1)) (sym w.self-is)
      (below_same (g.L.Loaded.state c.args.loaded.now) c.loop-id.self c.loop-id.id (c.loop-id.id + 1) c.loop-id.invariant (sym c.is_cited.ensures ∙ w.if-is_cited.false) refl)
]
