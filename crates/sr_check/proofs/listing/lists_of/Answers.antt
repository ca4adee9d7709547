use Rattle.std.proofs.Common.{◌∙◌, ◌∷◌, ◌++◌, [], ap, sym}
use Rattle.std.proofs.lemmas.List.{append_assoc}
use Rattle.sr_model.specs.Chain.{Numbered}
use Rattle.sr_occurs.specs.Occurring.{under, AreUnder}
use Rattle.sr_occurs.proofs.Entering.{are_more, are_push}
use Rattle.sr_check.proofs.listing.lists_of.Goals as goal

pub loop-id-preserved : goal.loop-id-preserved
loop-id-preserved c =
    let done : Numbered = c.loop-id.invariant.before in
    let one : Numbered = (c.in-Some.id, c.in-Some.lits.now) ∷ [] in
    let kept : AreUnder (under c.enter.new.self) done = are_more (under c.loop-id.lists) (under c.enter.new.self) done c.in_ok-enter.ensures.kept c.loop-id.invariant.entered in
    record {
      before = done ++ one;
      split = c.loop-id.invariant.split ∙ ap (λ (x : Numbered). done ++ x) c.in-Some.ensures.next ∙ sym (append_assoc done one c.next.new.self);
      built = c.in_ok-enter.ensures.built ∙ c.loop-id.invariant.built;
      entered = are_push (under c.enter.new.self) done c.in-Some.id c.in-Some.lits.now kept (c.in_ok-enter.ensures.ok c.loop-id.invariant.built);
    }
