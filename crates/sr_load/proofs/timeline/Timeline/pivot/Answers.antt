use Rattle.std.proofs.Common.{arith, subst}
use Rattle.sr_load.specs.Loaded.{LoadedState, HasPivotAt}
use Rattle.sr_load.proofs.Keeping.{told_index, told_of}
use Rattle.sr_load.proofs.timeline.Timeline.pivot.Goals as goal

pub index-requires : goal.index-requires
index-requires c = omega (arith, told_index _ _ _ _ _ _ _ c.args.self.now c.args.id c.count.result c.self.invariant.0 c.self.view_is c.count.ensures.value c.requires.low c.requires.high)

pub returns : goal.returns
returns c =
    let told = told_of _ _ _ _ _ _ _ c.args.id c.count.result c.index.result.now c.self.invariant.0 c.count.ensures.value c.index.ensures in
    subst (λ (st : LoadedState). HasPivotAt st c.args.id c.index.result.now.pivot) c.self.view_is (λ p h. (told p h).pivot)
