use Rattle.std.proofs.Common.{◌≡◌, ◌+◌, ◌++◌, ◌∷◌, [], true, take, arith, ap, sym, ◌∙◌}
use Rattle.std.proofs.lemmas.List.{take_more}
use Rattle.sr_base.proofs.Literals.{no_repeats_push}
use Rattle.sr_model.specs.Substitution.{has_pair}
use Rattle.sr_wit.proofs.ReduceLemmas.{has_pair_push, has_pair-take}
use Rattle.sr_wit.proofs.reduce.likeness_by_pairs.Goals as goal
use Rattle.sr_wit.proofs.reduce.likeness_by_pairs.Goals.{then-repeated, else-repeated}

pub returns-then-has : goal.returns-then-has
returns-then-has c =
    let more : take (c.loop-i.i + 1) c.args.lits.now ≡ take c.loop-i.i c.args.lits.now ++ c.index-lits-i.result ∷ [] =
    take_more c.args.lits.now c.loop-i.i c.index-lits-i.result c.loop-i-test.true ∙ ap (λ l. take c.loop-i.i c.args.lits.now ++ l ∷ []) (sym c.index-lits-i.is) in
    let paired : has_pair (take (c.loop-i.i + 1) c.args.lits.now) ≡ true =
    rw more (grind (arith, has_pair_push (take c.loop-i.i c.args.lits.now) c.index-lits-i.result)) in
    has_pair-take c.args.lits.now (c.loop-i.i + 1) paired

pub loop-i-preserved : goal.loop-i-preserved
loop-i-preserved c =
    let more : take (c.loop-i.i + 1) c.args.lits.now ≡ take c.loop-i.i c.args.lits.now ++ c.index-lits-i.result ∷ [] =
    take_more c.args.lits.now c.loop-i.i c.index-lits-i.result c.loop-i-test.true ∙ ap (λ l. take c.loop-i.i c.args.lits.now ++ l ∷ []) (sym c.index-lits-i.is) in
    record {
      apart = rw more (grind (arith, has_pair_push (take c.loop-i.i c.args.lits.now) c.index-lits-i.result));
      distinct = λ h. elim c.if-repeated.branch [
        | then-repeated w ↦ absurd (grind arith)
        | else-repeated w ↦ rw more (no_repeats_push c.index-lits-i.result (take c.loop-i.i c.args.lits.now) (c.loop-i.invariant.distinct (grind arith)) (grind arith))
      ];
    }
