use Rattle.std.proofs.Common.{◌++◌, take}
use Rattle.sr_desk.proofs.CallLemmas.{OnlyWrites-trans, Sends-trans, sent_more, can_write-kept}
use Rattle.sr_desk.proofs.put.put_all.Goals as goal

pub loop-rest-preserved : goal.loop-rest-preserved
loop-rest-preserved g c =
    let had = c.loop-rest.invariant.sent in
    record {
      can = can_write-kept c.write.ensures.only c.loop-rest.invariant.can;
      only = OnlyWrites-trans c.loop-rest.invariant.only c.write.ensures.only;
      sent = (
        had.0 ++ take c.in-Ok.count c.loop-rest.rest.now,
        sent_more _ _ _ c.in-Ok.count had.1,
        Sends-trans had.2 c.in-Ok.ensures.bytes.sends,
      );
      finished = λ h. c.write.ensures.finished;
    }

pub returns-in-Err-clause-only : goal.returns-in-Err-clause-only
returns-in-Err-clause-only g c = OnlyWrites-trans c.loop-rest.invariant.only c.write.ensures.only
