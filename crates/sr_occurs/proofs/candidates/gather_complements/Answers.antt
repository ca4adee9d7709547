use Rattle.std.proofs.Common.{◌≡◌, ◌∙◌, ◌+◌, ◌∷◌, ◌++◌, [], ap, sym, subst, take, List, ℕ}
use Rattle.std.proofs.lemmas.List.{take_more, map-append}
use Rattle.sr_base.specs.Literal.{Literal, complement, compl}
use Rattle.sr_occurs.specs.Candidates.{HoldsWith}
use Rattle.sr_occurs.proofs.Gathering.{each_more, each_append}
use Rattle.sr_occurs.proofs.candidates.gather_complements.Goals as goal

pub loop-l-preserved : goal.loop-l-preserved
loop-l-preserved c =
    let lits : List Literal = c.args.lits.now in
    let i : ℕ = c.loop-l.l-index in
    let more : compl (take (i + 1) lits) ≡ compl (take i lits) ++ complement c.l-item.result ∷ [] =
    ap compl (take_more lits i c.l-item.result c.loop-l-test.true ∙ ap (λ x. take i lits ++ x ∷ []) (sym c.l-item.is)) ∙ map-append complement (take i lits) (c.l-item.result ∷ []) in
    record {
      listed = λ live t u. c.in_ok-gather.ensures.listed live t (c.loop-l.invariant.listed live t u);
      kept = λ n h. c.in_ok-gather.ensures.kept n (c.loop-l.invariant.kept n h);
      held = λ live t u.
          let here : HoldsWith (complement c.l-item.result) c.gather.new.numbers live = subst (λ l. HoldsWith l c.gather.new.numbers live) c.neg.ensures.value (c.in_ok-gather.ensures.ok live t (c.loop-l.invariant.listed live t u)).0 in
          rw more (each_append (compl (take i lits)) (complement c.l-item.result ∷ []) c.gather.new.numbers live
          (each_more (compl (take i lits)) c.loop-l.numbers c.gather.new.numbers live c.in_ok-gather.ensures.kept (c.loop-l.invariant.held live t u)) (here, tt));
    }
