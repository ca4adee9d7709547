use Rattle.std.proofs.Common.{◌<◌, ◌∙◌, [], arith, length, ap, List, get_or, sym}
use Rattle.sr_model.specs.Meeting.{Group}
use Rattle.sr_wit.proofs.GroupLemmas.{length-groups, get_or-groups}
use Rattle.sr_wit.proofs.group.GroupList.id.Goals as goal

pub id_at-requires : goal.id_at-requires
id_at-requires c =
    let count = length-groups c.self.inside.starts.items c.self.inside.hints.items in
    let same = ap length c.self.view_is in
    rw c.deref.ensures.value (omega arith)

pub returns : goal.returns
returns c =
    let count = length-groups c.self.inside.starts.items c.self.inside.hints.items in
    let same = ap length c.self.view_is in
    let within : c.args.i < length c.self.inside.starts.items = omega arith in
    let at = get_or-groups c.self.inside.starts.items c.self.inside.hints.items c.args.i (record { id = 0; start = 0 }) within in
    rw c.deref.ensures.value at c.id_at.ensures ∙ sym (ap (λ g. g.0) at) ∙ ap (λ (gs : List Group). (get_or gs c.args.i (0, [])).0) c.self.view_is
