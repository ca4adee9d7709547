use Rattle.std.proofs.Common.{◌≡◌, ◌+◌, ◌++◌, ◌∷◌, [], List, take, arith, ap, sym, ◌∙◌}
use Rattle.std.proofs.lemmas.List.{take_more}
use Rattle.sr_base.specs.Literal.{Literal}
use Rattle.sr_model.specs.Substitution.{Substitution, substitution, image, is_image, is_yes}
use Rattle.sr_wit.proofs.ReduceLemmas.{image_literals_false, image_literals_push, is_touched_push, none_true_push}
use Rattle.sr_wit.proofs.reduce.collect_images.Goals as goal
use Rattle.sr_wit.proofs.reduce.collect_images.Goals.{then-not-is_own, else-not-is_own, in-No, in-To+in_ok-push-in-To}

pub loop-l-preserved : goal.loop-l-preserved
loop-l-preserved c =
    let s : Substitution = substitution c.args.subst.now in
    let done : List Literal = take c.loop-l.l-index c.args.lits.now in
    let l : Literal = c.l-item.result in
    let more : take (c.loop-l.l-index + 1) c.args.lits.now ≡ done ++ l ∷ [] =
    take_more c.args.lits.now c.loop-l.l-index l c.loop-l-test.true ∙ ap (λ k. done ++ k ∷ []) (sym c.l-item.is) in
    let own : c.is_own.result ≡ is_image (image s l) l = c.is_own.ensures ∙ ap (λ i. is_image i l) c.image-image.ensures in
    record {
      touched = rw (more, is_touched_push s done l) (elim c.if-not-is_own.branch [ then-not-is_own w ↦ grind arith | else-not-is_own w ↦ grind arith ]);
      none_true = rw more (none_true_push s done l c.loop-l.invariant.none_true (elim c.match-image.branch [
        | in-No w ↦ ap is_yes (sym c.image-image.ensures ∙ w.in-No.is)
        | in-To+in_ok-push-in-To w ↦ ap is_yes (sym c.image-image.ensures ∙ w.in-To.is)
      ]));
      images = rw more (elim c.match-image.branch [
        | in-No w ↦ w.out-is ∙ c.loop-l.invariant.images ∙ sym (image_literals_false s done l (sym c.image-image.ensures ∙ w.in-No.is))
        | in-To+in_ok-push-in-To w ↦
            w.out-is ∙ w.in_ok-push-in-To.ensures.ok ∙ ap (λ (ks : List Literal). ks ++ w.in-To.k ∷ []) c.loop-l.invariant.images
            ∙ sym (image_literals_push s done l w.in-To.k (sym c.image-image.ensures ∙ w.in-To.is))
      ]);
    }
