use Rattle.std.proofs.Common.{◌≡◌, ◌∙◌, ◌+◌, ◌∷◌, ◌++◌, [], ap, sym, take, List, ℕ}
use Rattle.std.proofs.lemmas.List.{take_more}
use Rattle.sr_base.specs.Literal.{Literal}
use Rattle.sr_occurs.specs.Candidates.{sent_literals}
use Rattle.sr_occurs.proofs.Gathering.{each_more, each_append, sent_append}
use Rattle.sr_occurs.proofs.candidates.gather_sent.Goals as goal

pub loop-from-preserved : goal.loop-from-preserved
loop-from-preserved c =
    let maps : List (Literal × Literal) = c.args.maps.now in
    let i : ℕ = c.loop-from.from-index in
    let m : Literal × Literal = c.loop-from-item.result in
    let more : sent_literals (take (i + 1) maps) ≡ sent_literals (take i maps) ++ sent_literals (m ∷ []) =
    ap sent_literals (take_more maps i m c.loop-from-test.true ∙ ap (λ x. take i maps ++ x ∷ []) (sym c.loop-from-item.is)) ∙ sent_append (take i maps) (m ∷ []) in
    record {
      listed = λ live t u. c.in_ok-gather_map.ensures.listed live t (c.loop-from.invariant.listed live t u);
      kept = λ n h. c.in_ok-gather_map.ensures.kept n (c.loop-from.invariant.kept n h);
      held = λ live t u. rw more (each_append (sent_literals (take i maps)) (sent_literals (m ∷ [])) c.gather_map.new.numbers live
          (each_more (sent_literals (take i maps)) c.loop-from.numbers c.gather_map.new.numbers live c.in_ok-gather_map.ensures.kept (c.loop-from.invariant.held live t u)) (c.in_ok-gather_map.ensures.ok live t (c.loop-from.invariant.listed live t u)));
    }
