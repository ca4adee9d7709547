use Rattle.std.proofs.Common.{arith}
use Rattle.sr_scan.proofs.NumberLemmas.{groups_for-small, spelled_two, spelled_three}
use Rattle.sr_scan.proofs.write.put_short_value.Goals as goal

pub returns-then-value-lt128-clause-ok : goal.returns-then-value-lt128-clause-ok
returns-then-value-lt128-clause-ok c = rw (groups_for-small 10 c.args.value (omega arith) c.if-value-lt128.true) c.push.ensures.ok

pub returns-then-left-lt128-clause-ok : goal.returns-then-left-lt128-clause-ok
returns-then-left-lt128-clause-ok c = rw (spelled_two c.args.value c.if-value-lt128.false c.if-left-lt128.true) c.extend.ensures.ok

pub returns-then-last-lt128-clause-ok : goal.returns-then-last-lt128-clause-ok
returns-then-last-lt128-clause-ok c =
    rw (spelled_three c.args.value c.if-value-lt128.false c.if-left-lt128.false c.if-last-lt128.true) c.extend-then-last-lt128.ensures.ok
