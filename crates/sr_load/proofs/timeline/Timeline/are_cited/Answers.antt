use Rattle.std.proofs.Common.{◌∙◌, sym, get_or}
use Rattle.std.proofs.lemmas.List.{get_or_default}
use Rattle.sr_load.proofs.Alike.{cited_more}
use Rattle.sr_load.proofs.timeline.Timeline.are_cited.Goals as goal

pub loop-id-preserved : goal.loop-id-preserved
loop-id-preserved c =
    let ids = c.args.ids.now in let i = c.loop-id.id-index in
    cited_more ids c.args.self.now.cited i (get_or ids i 0) c.loop-id-test.true (get_or_default ids i 0 (get_or ids i 0) c.loop-id-test.true) (sym c.is_cited.ensures ∙ c.if-not-is_cited.false) c.loop-id.invariant
