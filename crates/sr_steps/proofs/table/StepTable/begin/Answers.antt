use Rattle.std.proofs.Common.{◌≡◌, ◌++◌, ◌∷◌, [], length, arith}
use Rattle.std.proofs.lemmas.Grind.{common_steps}
use Rattle.sr_steps.proofs.Growing.{witness_place, begin-laid}
use Rattle.sr_steps.proofs.table.StepTable.begin.Goals as goal

pub invariant_of-self-2 : goal.invariant_of-self-2
invariant_of-self-2 c =
    let steps : c.push.new.self.items ≡ c.self.inside.steps.items ++ witness_place c.args.id c.len-start.result c.len-start.result ∷ [] = grind (arith, common_steps) in
    let start : c.len-start.result ≡ length c.self.inside.groups.items = grind (arith, common_steps) in
    rw steps (begin-laid c.self.inside.hints.items c.self.inside.groups.items c.self.inside.steps.items c.args.id c.len-start.result start c.self.invariant)
