use Rattle.std.proofs.Common.{◌≡◌, ◌∙◌, ◌+◌, ◌∷◌, ◌++◌, [], ap, sym, take, get_or, List, ℕ}
use Rattle.std.proofs.lemmas.List.{take_more}
use Rattle.sr_base.specs.Literal.{Literal}
use Rattle.sr_occurs.specs.Occurring.{numbers_under, Enters, KeepsNumbers}
use Rattle.sr_occurs.proofs.Entering.{enters, linked_set, keeps_same, keeps_enters, keeps_then, under_enters, under_more, under_push}
use Rattle.sr_occurs.proofs.occurrences.enter_all.Goals as goal

pub loop-l-preserved : goal.loop-l-preserved
loop-l-preserved c =
    let heads : List ℕ = c.open_list.new.heads.items in
    let opened : List (List ℕ) = c.open_list.new.lists.items in
    let first : Literal → List ℕ = numbers_under c.args.heads.now.items c.args.lists.now.items in
    let old : Literal → List ℕ = numbers_under c.loop-l.heads.items c.loop-l.lists.items in
    let now : Literal → List ℕ = numbers_under heads opened in
    let new : Literal → List ℕ = numbers_under heads c.push_number.new.lists.items in
    let entered : Enters now new c.l-item.result c.args.id =
    rw c.in_ok-push_number.ensures.ok (enters heads opened c.l-item.result c.in_ok-place.place c.args.id c.in_ok-place.ensures.linked c.in_ok-place.ensures.place) in
    let keeps : KeepsNumbers old new = keeps_then old now new (keeps_same old now c.in_ok-place.ensures.same) (keeps_enters now new c.l-item.result c.args.id entered) in
    let more : take (c.loop-l.l-index + 1) c.args.lits.now ≡ take c.loop-l.l-index c.args.lits.now ++ c.l-item.result ∷ [] =
    take_more c.args.lits.now c.loop-l.l-index c.l-item.result c.loop-l-test.true ∙ ap (λ x. take c.loop-l.l-index c.args.lits.now ++ x ∷ []) (sym c.l-item.is) in
    record {
      linked = rw c.in_ok-push_number.ensures.ok (linked_set heads opened c.in_ok-place.place (get_or opened c.in_ok-place.place [] ++ c.args.id ∷ []) c.in_ok-place.ensures.linked);
      kept = keeps_then first old new c.loop-l.invariant.kept keeps;
      entered = rw more (under_push new c.args.id (take c.loop-l.l-index c.args.lits.now) c.l-item.result
          (under_more old new c.args.id (take c.loop-l.l-index c.args.lits.now) keeps c.loop-l.invariant.entered)
          (under_enters now new c.l-item.result c.args.id entered));
    }
