use Rattle.std.proofs.Common.{◌≡◌, length, rules}
use Rattle.sr_scan.proofs.NumberLemmas.{bytes_more, bytes_last}
use Rattle.sr_placing.proofs.spelling.spell_value.Goals as goal

pub loop-left-preserved : goal.loop-left-preserved
loop-left-preserved c =
    let old = c.loop-left.invariant in
    let len : length c.loop-left.bytes ≡ 5 = search rules in
    let next = bytes_more c.loop-left.bytes c.loop-left.len c.loop-left.left c.args.value len old.few old.room c.loop-left-test.true old.bytes in
    record { few = next.few; room = next.room; bytes = next.bytes_are }

pub returns-clause-bytes : goal.returns-clause-bytes
returns-clause-bytes c =
    let old = c.loop-left.invariant in
    let len : length c.loop-left.bytes ≡ 5 = search rules in
    bytes_last c.loop-left.bytes c.loop-left.len c.loop-left.left c.args.value len old.few c.loop-left-test.false old.bytes
