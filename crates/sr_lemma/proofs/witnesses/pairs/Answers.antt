use Rattle.std.proofs.Common.{◌∙◌, ◌++◌, ◌≤◌, sym, ap, drop, length, length-drop, arith}
use Rattle.std.proofs.lemmas.List.{append-nil}
use Rattle.sr_lemma.proofs.SplitLemmas.{pairs-short}
use Rattle.sr_lemma.proofs.witnesses.pairs.Goals as goal

pub returns : goal.returns
returns c =
    let short : length (drop c.loop-i.i c.args.lits.now) ≤ 1 = omega (arith, length-drop c.loop-i.i c.args.lits.now) in
    sym (append-nil c.loop-i.maps.items) ∙ ap (λ ps. c.loop-i.maps.items ++ ps) (sym (pairs-short (drop c.loop-i.i c.args.lits.now) short)) ∙ c.loop-i.invariant.1
