use Rattle.std.proofs.Common.{◌≡◌, ◌++◌, ◌∷◌, [], arith}
use Rattle.std.proofs.lemmas.Grind.{common_steps}
use Rattle.sr_placing.proofs.Chaining.{walk_begins, walk_within, link_rises, walk_on, walked}
use Rattle.sr_placing.proofs.chains.push_chain.Goals as goal

pub loop-n-init : goal.loop-n-init
loop-n-init c = walk_begins c.args.links.now c.args.head c.args.numbers.now.items c.requires.0 c.requires.1

pub bounds-links-n : goal.bounds-links-n
bounds-links-n c = walk_within c.args.links.now c.args.head c.loop-n.n c.args.numbers.now.items c.loop-n.numbers.items c.loop-n.invariant (omega arith)

pub loop-n-smaller : goal.loop-n-smaller
loop-n-smaller c = link_rises c.args.links.now c.args.head c.loop-n.n c.args.numbers.now.items c.loop-n.numbers.items c.loop-n.invariant (omega arith)

pub loop-n-preserved : goal.loop-n-preserved
loop-n-preserved c =
    let pushed : c.push.new.self.items ≡ c.loop-n.numbers.items ++ c.loop-n.n ∷ [] = grind (arith, common_steps) in
    walk_on c.args.links.now c.args.head c.loop-n.n c.args.numbers.now.items c.loop-n.numbers.items c.push.new.self.items c.loop-n.invariant (omega arith) pushed

pub returns : goal.returns
returns c = walked c.args.links.now c.args.head c.loop-n.n c.args.numbers.now.items c.loop-n.numbers.items c.loop-n.invariant (omega arith)
