use Rattle.std.proofs.Common.{take, get_or, List, ℕ}
use Rattle.std.proofs.lemmas.List.{take_more}
use Rattle.sr_table.proofs.Numbering.{all_more, all_push}
use Rattle.sr_table.proofs.id_set.IdSet.add_all.Goals as goal

pub loop-id-preserved : goal.loop-id-preserved
loop-id-preserved c =
    let i : ℕ = c.loop-id.id-index in
    let ns : List ℕ = c.args.ids.now in
    record {
      kept = λ n h. c.in_ok-add.ensures.kept n (c.loop-id.invariant.kept n h);
      held = rw (take_more ns i 0 c.loop-id-test.true) (all_push c.add.new.self (take i ns) (get_or ns i 0) (all_more c.loop-id.self c.add.new.self (take i ns) c.in_ok-add.ensures.kept c.loop-id.invariant.held) c.in_ok-add.ensures.ok);
    }
