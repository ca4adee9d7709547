use Rattle.std.proofs.Common.{◌≡◌, ◌++◌, length, drop, rules, arith}
use Rattle.std.specs.Fmt.{decimal}
use Rattle.sr_placing.proofs.Digits.{spell_more, spell_last}
use Rattle.sr_placing.proofs.spelling.spell.Goals as goal

pub loop-left-preserved : goal.loop-left-preserved
loop-left-preserved c =
    let len : length c.loop-left.text ≡ 21 = search rules in
    spell_more c.loop-left.text c.loop-left.at c.loop-left.left (decimal c.args.size ++ drop 20 c.args.text.now) len c.loop-left-test.true (omega arith) c.loop-left.invariant

pub returns-clause-digits : goal.returns-clause-digits
returns-clause-digits c =
    let len : length c.loop-left.text ≡ 21 = search rules in
    spell_last c.loop-left.text c.loop-left.at c.loop-left.left (decimal c.args.size ++ drop 20 c.args.text.now) len c.loop-left-test.false c.loop-left.invariant
