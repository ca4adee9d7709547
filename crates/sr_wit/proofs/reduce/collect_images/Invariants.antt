use Rattle.std.proofs.Common.{◌≡◌, false, take}
use Rattle.std.specs.List.{list_any}
use Rattle.sr_model.specs.Substitution.{substitution, image, is_yes, is_touched, image_literals}
use Rattle.sr_wit.proofs.reduce.collect_images.Given as goal

abbrev pub invariant-loop-l : goal.invariant-loop-l
invariant-loop-l l = record {
  touched : l.touched ≡ is_touched (substitution l.subst) (take l.l-index l.lits);
  none_true : list_any (λ k. is_yes (image (substitution l.subst) k)) (take l.l-index l.lits) ≡ false;
  images : l.out ≡ image_literals (substitution l.subst) (take l.l-index l.lits);
}
