use Rattle.std.proofs.Common.{arith}
use Rattle.sr_wit.proofs.ReduceLemmas.{NoneAdjacent, no_code_pair}
use Rattle.sr_wit.proofs.reduce.likeness_by_codes.Goals as goal

pub returns-then-repeated : goal.returns-then-repeated
returns-then-repeated c =
    let none : NoneAdjacent c.args.codes.now = λ k l. c.loop-i.invariant.apart k (omega arith) in
    no_code_pair c.args.codes.now c.requires none

pub returns-else-repeated : goal.returns-else-repeated
returns-else-repeated c =
    let none : NoneAdjacent c.args.codes.now = λ k l. c.loop-i.invariant.apart k (omega arith) in
    (no_code_pair c.args.codes.now c.requires none, λ k l. c.loop-i.invariant.rising c.if-repeated.false k (omega arith))
