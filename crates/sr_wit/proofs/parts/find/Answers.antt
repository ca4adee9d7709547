use Rattle.std.proofs.Common.{rules}
use Rattle.std.proofs.lemmas.List.Sorted.{answers_always}
use Rattle.sr_wit.proofs.PartLemmas.{found_part, absent_part}
use Rattle.sr_wit.proofs.parts.find.Goals as goal

pub returns-in-Ok : goal.returns-in-Ok
returns-in-Ok c =
    let equal = c.in-Ok.ensures.position (λ p. p.0) (answers_always _ _ _ (λ f a r g called. search rules)) in
    found_part c.args.table.now c.args.var c.in-Ok.i c.index-table-i.result c.in-Ok.ensures.bound equal

pub returns-in-Err : goal.returns-in-Err
returns-in-Err c =
    let parted = c.in-Err.ensures.position (λ p. p.0) (answers_always _ _ _ (λ f a r g called. search rules)) in
    absent_part c.args.table.now c.args.var c.in-Err.field-0 c.requires parted
