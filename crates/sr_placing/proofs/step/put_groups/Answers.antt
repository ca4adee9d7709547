use Rattle.std.proofs.Common.{ℕ, List, false, get_or, subst, arith}
use Rattle.sr_model.specs.Meeting.{Group}
use Rattle.sr_wit.proofs.GroupLemmas.{group_at}
use Rattle.sr_steps.specs.Adding.{bare}
use Rattle.sr_placing.proofs.Putting.{group_more}
use Rattle.sr_placing.proofs.step.put_groups.Goals as goal

pub loop-j-preserved : goal.loop-j-preserved
loop-j-preserved g c =
    let groups : List Group = (get_or c.args.steps.now c.args.i (bare 0 false)).groups in
    let both = g.met.S.Sink.joined _ _ _ _ _ _ _ _ c.loop-j.invariant.put c.put_group.ensures in
    record {
      can = g.met.S.Sink.stays _ _ _ _ _ c.loop-j.invariant.can c.put_group.ensures;
      put = subst (λ (x : List ℕ). g.S.Sink.puts c.args.sink.now c.args.out.now c.put_group.new.sink c.put_group.new.out x)
          (group_more c.args.form groups c.loop-j.j (c.group_id.result, c.group_hints.result.now) (omega arith)
          (group_at groups c.loop-j.j c.group_id.result c.group_hints.result.now (omega arith) c.group_id.ensures c.group_hints.ensures)) both;
    }
