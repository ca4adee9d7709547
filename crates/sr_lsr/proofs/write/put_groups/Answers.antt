use Rattle.std.proofs.Common.{arith}
use Rattle.sr_wit.proofs.GroupLemmas.{group_at}
use Rattle.sr_lsr.proofs.WriteLemmas.{groups_step}
use Rattle.sr_lsr.proofs.write.put_groups.Goals as goal

pub loop-i-preserved : goal.loop-i-preserved
loop-i-preserved c =
    groups_step c.args.form c.args.out.now c.loop-i.out c.put_group.new.out c.args.groups.now c.loop-i.i (c.id.result, c.hints.result.now) (omega arith)
    (group_at c.args.groups.now c.loop-i.i c.id.result c.hints.result.now (omega arith) c.id.ensures c.hints.ensures) c.loop-i.invariant c.in_ok-put_group.ensures
