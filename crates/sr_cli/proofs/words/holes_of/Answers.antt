use Rattle.std.proofs.Common.{◌∙◌, sym, arith, rules}
use Rattle.sr_cli.proofs.HolesRead.{holes_past}
use Rattle.sr_cli.proofs.words.holes_of.Goals as goal

pub returns-then-holes-gt-MOST_HOLES-clause-value : goal.returns-then-holes-gt-MOST_HOLES-clause-value
returns-then-holes-gt-MOST_HOLES-clause-value c =
    sym (c.loop-digit.invariant.left ∙ holes_past c.loop-digit.holes c.loop-digit.digit-index c.as_bytes-digit-items.result.now (search rules)
    (sym c.is_ascii_digit.ensures.value ∙ c.if-not-is_ascii_digit.false) (omega (arith, c.from.ensures, c.if-holes-gt-MOST_HOLES.true)))
