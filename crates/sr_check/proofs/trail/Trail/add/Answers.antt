use Rattle.std.proofs.Common.{◌≡◌, ◌∙◌, ap, not, false, Bool, List, length, get_or}
use Rattle.std.proofs.lemmas.List.{get_or_default}
use Rattle.sr_base.specs.Literal.{literal_code, complement}
use Rattle.sr_check.specs.Trail.{table_at}
use Rattle.sr_check.proofs.Trailing.{marked_add, code_within, complement_within}
use Rattle.sr_check.proofs.trail.Trail.add.Goals as goal

pub invariant_of-self-2 : goal.invariant_of-self-2
invariant_of-self-2 c =
    let grown : List Bool = c.make_room.new.table.items in
    let code_is : c.code-falsified.result ≡ literal_code (complement c.args.l) = c.code-falsified.ensures.value ∙ ap literal_code c.neg.ensures.value in
    let there : c.index.result.now ≡ table_at grown (literal_code (complement c.args.l)) =
    c.index.ensures ∙ ap (λ n. get_or grown n c.index.result.now) code_is ∙ get_or_default grown (literal_code (complement c.args.l)) c.index.result.now false (complement_within (length grown) c.args.l c.in_ok-make_room.ensures.room) in
    let clashes : c.index-clashes.result.now ≡ table_at grown (literal_code c.args.l) =
    c.index-clashes.ensures ∙ ap (λ n. get_or grown n c.index-clashes.result.now) c.code.ensures.value ∙ get_or_default grown (literal_code c.args.l) c.index-clashes.result.now false (code_within (length grown) c.args.l c.in_ok-make_room.ensures.room) in
    rw code_is (marked_add c.self.inside.table.items c.make_room.new.table.items c.self.inside.entries.items c.push.new.self.items c.self.inside.pair (not c.index.result.now) c.index-clashes.result.now c.args.l c.self.invariant c.in_ok-make_room.ensures.kept c.in_ok-make_room.ensures.room (ap not there) clashes c.in-Ok.ensures.items)
