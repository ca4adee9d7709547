use Rattle.std.proofs.Common.{◌≡◌, ◌++◌, ◌∷◌, [], length, arith}
use Rattle.std.proofs.lemmas.Grind.{common_steps}
use Rattle.sr_placing.proofs.Chaining.{lists_push}
use Rattle.sr_placing.proofs.chains.NumberLists.of_chains.Goals as goal

pub loop-head-preserved : goal.loop-head-preserved
loop-head-preserved c =
    let pushed : c.push.new.self.items ≡ c.loop-head.ends.items ++ length c.push_chain.new.numbers.items ∷ [] = grind (arith, common_steps) in
    let r =
    lists_push c.args.links.now c.args.heads.now c.loop-head.head-index c.loop-head.ends.items c.loop-head.numbers.items c.push.new.self.items c.push_chain.new.numbers.items
    (omega arith) c.loop-head.invariant.cut c.loop-head.invariant.chains c.in_ok-push_chain.ensures pushed in
    record { cut = r.0; chains = r.1 }
