use Rattle.std.proofs.Common.{◌≡◌, arith, true, false, sym, ◌∙◌}
use Rattle.std.specs.Prelude.{is_some}
use Rattle.sr_base.specs.Literal.{complement, has}
use Rattle.sr_check.proofs.Trailing.{code_within}
use Rattle.sr_check.proofs.Following.{second_open, covered_at}
use Rattle.sr_check.proofs.chains.open_of.Goals as goal

pub is_false-requires : goal.is_false-requires
is_false-requires c = code_within c.args.trail.now.room c.l-item.result (covered_at c.args.trail.now.room c.args.lits.now c.loop-l.l-index c.l-item.result c.requires (omega arith) c.l-item.is)

pub returns-then-is_some : goal.returns-then-is_some
returns-then-is_some c =
    let s : is_some c.loop-l.found ≡ true = grind arith in
    let n : has (complement c.l-item.result) c.args.trail.now.lits ≡ false = sym c.is_false.ensures ∙ c.if-not-is_false.true in
    second_open c.args.trail.now.lits c.args.lits.now c.loop-l.l-index c.l-item.result c.loop-l.found (omega arith) c.l-item.is c.loop-l.invariant s n
