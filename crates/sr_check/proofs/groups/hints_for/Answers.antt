use Rattle.std.proofs.Common.{◌≡◌, ◌∙◌, [], arith, sym, ap, get_or}
use Rattle.sr_check.specs.Indexing.{place_from}
use Rattle.sr_check.proofs.Grouping.{IsPlace, group_none, group_some}
use Rattle.sr_check.proofs.groups.hints_for.Goals as goal

pub returns-then-place-eq0 : goal.returns-then-place-eq0
returns-then-place-eq0 c = sym (group_none 1 c.args.groups.now c.args.number (omega arith) (sym c.requires ∙ sym c.get-place.ensures ∙ c.if-place-eq0.true))

pub hints-requires : goal.hints-requires
hints-requires c =
    let is : place_from 1 c.args.groups.now c.args.number ≡ c.get-place.result = sym c.requires ∙ sym c.get-place.ensures in
    let p : IsPlace 1 c.args.groups.now c.args.number c.get-place.result = group_some 1 c.args.groups.now c.args.number c.get-place.result is (λ z. absurd (omega (arith, c.if-place-eq0.false))) in
    omega (arith, p.is, p.within)

pub returns : goal.returns
returns c =
    let is : place_from 1 c.args.groups.now c.args.number ≡ c.get-place.result = sym c.requires ∙ sym c.get-place.ensures in
    let p : IsPlace 1 c.args.groups.now c.args.number c.get-place.result = group_some 1 c.args.groups.now c.args.number c.get-place.result is (λ z. absurd (omega (arith, c.if-place-eq0.false))) in
    c.hints.ensures ∙ ap (λ k. (get_or c.args.groups.now k (0, [])).1) (omega (arith, p.is)) ∙ p.hints (0, [])
