use Rattle.std.proofs.Common.{◌≡◌, ◌++◌, ◌∷◌, ◌∙◌, [], length, ap, sym, subst, arith}
use Rattle.std.proofs.lemmas.Grind.{common_steps}
use Rattle.sr_wit.specs.Groups.{AreStarts, groups_from}
use Rattle.sr_wit.specs.declared.group.GroupStart.{GroupStart}
use Rattle.sr_wit.proofs.GroupLemmas.{starts-begin, groups-begin}
use Rattle.sr_wit.proofs.group.GroupList.begin.Goals as goal

pub invariant_of-self-2 : goal.invariant_of-self-2
invariant_of-self-2 c =
    let s : GroupStart = record { id = c.args.id; start = c.len-start.result } in
    let start : c.len-start.result ≡ length c.self.inside.hints.items = grind (arith, common_steps) in
    let pushed : c.push.new.self.items ≡ c.self.inside.starts.items ++ s ∷ [] = grind (arith, common_steps) in
    subst (λ gs. AreStarts gs (length c.self.inside.hints.items)) (sym pushed) (starts-begin c.self.inside.starts.items (length c.self.inside.hints.items) s start c.self.invariant)

pub returns-clause-ok : goal.returns-clause-ok
returns-clause-ok c =
    let s : GroupStart = record { id = c.args.id; start = c.len-start.result } in
    let start : c.len-start.result ≡ length c.self.inside.hints.items = grind (arith, common_steps) in
    let pushed : c.push.new.self.items ≡ c.self.inside.starts.items ++ s ∷ [] = grind (arith, common_steps) in
    ap (λ gs. groups_from gs c.self.inside.hints.items) pushed ∙ groups-begin c.self.inside.starts.items c.self.inside.hints.items s start
    ∙ ap (λ gs. gs ++ (c.args.id, []) ∷ []) c.self.view_is
