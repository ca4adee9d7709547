use Rattle.std.proofs.Common.{◌≡◌, ◌≤◌, ◌++◌, ◌∷◌, ◌∙◌, [], length, length-append, ap, arith}
use Rattle.std.proofs.lemmas.Grind.{common_steps}
use Rattle.sr_wit.specs.Groups.{groups_from, with_hint}
use Rattle.sr_wit.proofs.GroupLemmas.{starts-more, groups-more}
use Rattle.sr_wit.proofs.group.GroupList.add_hint.Goals as goal

pub invariant_of-self-2 : goal.invariant_of-self-2
invariant_of-self-2 c =
    let pushed : c.push.new.self.items ≡ c.self.inside.hints.items ++ c.args.hint ∷ [] = grind (arith, common_steps) in
    let longer : length c.self.inside.hints.items ≤ length c.push.new.self.items = rw pushed (omega (arith, length-append c.self.inside.hints.items (c.args.hint ∷ []))) in
    starts-more c.self.inside.starts.items (length c.self.inside.hints.items) (length c.push.new.self.items) longer c.self.invariant

pub returns-clause-ok : goal.returns-clause-ok
returns-clause-ok c =
    let pushed : c.push.new.self.items ≡ c.self.inside.hints.items ++ c.args.hint ∷ [] = grind (arith, common_steps) in
    ap (groups_from c.self.inside.starts.items) pushed ∙ groups-more c.self.inside.starts.items c.self.inside.hints.items c.args.hint c.self.invariant
    ∙ ap (λ gs. with_hint gs c.args.hint) c.self.view_is
