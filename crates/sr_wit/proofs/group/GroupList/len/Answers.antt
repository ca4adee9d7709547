use Rattle.std.proofs.Common.{arith, length, ap}
use Rattle.std.proofs.lemmas.Grind.{common_steps}
use Rattle.sr_wit.proofs.GroupLemmas.{length-groups}
use Rattle.sr_wit.proofs.group.GroupList.len.Goals as goal

pub returns : goal.returns
returns c =
    let count = length-groups c.self.inside.starts.items c.self.inside.hints.items in
    let same = ap length c.self.view_is in
    grind (arith, common_steps)
