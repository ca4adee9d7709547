use Rattle.std.proofs.Common.{◌≡◌, ℕ, ◌+◌, ◌-◌, get_or, subst, arith}
use Rattle.sr_placing.proofs.Chaining.{AreChainedFrom, none_chained, unmarked, marked}
use Rattle.sr_placing.proofs.chains.chain_up.Goals as goal

pub loop-n-init : goal.loop-n-init
loop-n-init c = none_chained c.args.marks.now c.args.heads.now c.requires.some c.requires.none

pub loop-n-preserved-then-mark-ne0 : goal.loop-n-preserved-then-mark-ne0
loop-n-preserved-then-mark-ne0 c =
    let one : c.loop-n.n ≡ c.loop-n.n - 1 + 1 = omega arith in
    let from : AreChainedFrom c.args.marks.now c.loop-n.marks c.loop-n.heads (c.loop-n.n - 1 + 1) = subst (λ (n : ℕ). AreChainedFrom c.args.marks.now c.loop-n.marks c.loop-n.heads n) one c.loop-n.invariant in
    let was = c.loop-n.invariant.rest (c.loop-n.n - 1) (omega arith) in
    let few = c.requires.marks (c.loop-n.n - 1) in
    marked c.args.marks.now c.loop-n.marks c.loop-n.heads (c.loop-n.n - 1) (get_or c.loop-n.marks (c.loop-n.n - 1) 0 - 1) from (omega arith) (omega arith) (omega (arith, few, was))

pub loop-n-preserved : goal.loop-n-preserved
loop-n-preserved c =
    let one : c.loop-n.n ≡ c.loop-n.n - 1 + 1 = omega arith in
    let from : AreChainedFrom c.args.marks.now c.loop-n.marks c.loop-n.heads (c.loop-n.n - 1 + 1) = subst (λ (n : ℕ). AreChainedFrom c.args.marks.now c.loop-n.marks c.loop-n.heads n) one c.loop-n.invariant in
    unmarked c.args.marks.now c.loop-n.marks c.loop-n.heads (c.loop-n.n - 1) from (omega arith) (omega arith)
