use Rattle.std.proofs.Common.{refl, ◌∙◌}
use Rattle.sr_arena.proofs.Weighing.{kept}
use Rattle.sr_arena.proofs.memory.ClauseMem.set_number.Goals as goal

pub invariant_of-self : goal.invariant_of-self
invariant_of-self c =
    let k = kept c.self.inside.regions c.set_number.new.self c.args.self.now c.self.inside.most c.index.result c.args.at _ c.self.view_is c.index.ensures.value c.requires c.set_number.ensures refl in
    (c.self.invariant.0 ∙ k.inside, c.self.invariant.1, c.self.invariant.2)

pub returns-clause-held : goal.returns-clause-held
returns-clause-held c =
    let k = kept c.self.inside.regions c.set_number.new.self c.args.self.now c.self.inside.most c.index.result c.args.at _ c.self.view_is c.index.ensures.value c.requires c.set_number.ensures refl in
    k.outside
