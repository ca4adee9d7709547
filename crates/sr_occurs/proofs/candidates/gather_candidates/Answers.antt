use Rattle.std.proofs.Common.{◌∙◌, ap, subst, List, ℕ}
use Rattle.sr_base.specs.Literal.{complement, compl}
use Rattle.sr_model.specs.Chain.{Numbered}
use Rattle.sr_occurs.specs.Candidates.{HoldsWith, HoldsEach, sent_literals}
use Rattle.sr_occurs.proofs.Gathering.{with_more, each_more, each_append, holds_left}
use Rattle.sr_occurs.proofs.candidates.gather_candidates.Goals as goal

pub returns-clause-left : goal.returns-clause-left
returns-clause-left c live t u =
    let one_listed = c.in_ok-gather.ensures.listed live t u in
    let two_listed = c.in_ok-gather_complements.ensures.listed live t one_listed in
    let one : List ℕ = c.gather.new.numbers in
    let two : List ℕ = c.gather_complements.new.numbers in
    let all : List ℕ = c.gather_sent.new.numbers in
    let pivot : HoldsWith (complement c.args.subst.now.pivot) one live = subst (λ l. HoldsWith l one live) (c.neg.ensures.value ∙ ap complement c.pivot.ensures.value) (c.in_ok-gather.ensures.ok live t u).0 in
    let assigned : HoldsEach (compl c.args.subst.now.assigned) two live = subst (λ ls. HoldsEach (compl ls) two live) c.assigned.ensures (c.in_ok-gather_complements.ensures.ok live t one_listed) in
    let mapped : HoldsEach (sent_literals c.args.subst.now.maps) all live = subst (λ ms. HoldsEach (sent_literals ms) all live) c.maps.ensures (c.in_ok-gather_sent.ensures.ok live t two_listed) in
    holds_left c.args.subst.now all live (
      with_more (complement c.args.subst.now.pivot) one all live (λ n h. c.in_ok-gather_sent.ensures.kept n (c.in_ok-gather_complements.ensures.kept n h)) pivot,
      each_append (compl c.args.subst.now.assigned) (sent_literals c.args.subst.now.maps) all live (each_more (compl c.args.subst.now.assigned) two all live c.in_ok-gather_sent.ensures.kept assigned) mapped,
    )
